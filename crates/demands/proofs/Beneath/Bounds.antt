-- Each bound of a plan that keeps what a plan has to keep is document 01's formula, over the bounds that are listed.
use Prim.Native.Nat.{ℕ, zero, suc, ◌+◌, ◌*◌, ◌-◌, ◌<◌}
use mathlib.Core.Path.{◌≡◌, refl, sym, ap, ap₂, ◌∙◌}
use mathlib.Core.Bool.{true, false}
use mathlib.Core.List.{List, [], ◌∷◌, map}
use native.Mathlib.Omega.{arith}
use lib.ListN.{length, get_or, get_or-map}
use lib.IntN.{ℤ, pos, sub_ℕ, nat_abs, ◌+ℤ◌}
use borrow.Author.Tests.{eqb-true, le-ltb}
use Rattle.units.specs.Limits.{tasks_limit}
use Rattle.lists.specs.Lists.{parts, seek}
use Rattle.arith.specs.Ceiling.{ceil_div}
use Rattle.lists.proofs.Tests.{and_left}
use Rattle.task_shares.specs.Movers.{has, fixed, moves, moves_on, first_core, upper}
use Rattle.task_shares.proofs.Words.{upper_moves}
use Rattle.assignment.proofs.Properties.{upper_found}
use Rattle.planning.specs.declared.Line.{Line}
use Rattle.planning.specs.declared.Plan.{Plan}
use Rattle.planning.specs.Plan.{no_line, row_of}
use Rattle.planning.specs.Kept.{PlanKept}
use Rattle.lateness.specs.Lateness.{upper_on, share_on, reach_of, push, reach_on, plan_reaches, fixed_late, late, lates_of}
use Rattle.lateness.specs.Words.{line_of, bound_of, two_past, MoverBound, FixedBound}
use Rattle.lateness.proofs.Words.{reach_says, fixed_alone}
use Rattle.lateness.proofs.Tasks.{get_or_map_in}
use Rattle.lateness.proofs.Formulas.{first_seek, line_there, mover_late, mover_alone}
use Rattle.demands.proofs.Beneath.SumOn.{none_pass, sum_on_lem}

-- a line that has a share is one of the lines
fixed_there : (lns : List Line) (i : ℕ) → fixed (row_of (get_or lns i no_line)) ≡ true → i < length lns
fixed_there [] i e = absurd (omega (arith, eqb-true 0 1 e))
fixed_there (ln ∷ lns) zero e = omega arith
fixed_there (ln ∷ lns) (suc i) e = omega (arith, fixed_there lns i e)

module _ (pl : Plan) where
  -- the bound that is listed
  listed : (i : ℕ) → i < length pl.lines → bound_of pl i ≡ late pl.common (plan_reaches pl) pl.lines (line_of pl i)
  unfolding lates_of
  listed i h = get_or_map_in (late pl.common (plan_reaches pl) pl.lines) pl.lines i no_line (pos 0) h

  -- a mover's is its reach less its period
  mover_listed : (h : ℕ) → moves (row_of (line_of pl h)) ≡ true → bound_of pl h ≡ sub_ℕ (reach_of (plan_reaches pl) (line_of pl h)) (line_of pl h).period.0
  unfolding late
  mover_listed h m = listed h (line_there pl.lines h m) ∙ rw m

  -- so D + 2T is its reach and its period
  mover_past : (h : ℕ) → moves (row_of (line_of pl h)) ≡ true
      → pos (reach_of (plan_reaches pl) (line_of pl h) + (line_of pl h).period.0) ≡ bound_of pl h +ℤ pos (2 * (line_of pl h).period.0)
  mover_past h m =
      reach_says (reach_of (plan_reaches pl) (line_of pl h)) (line_of pl h).period.0
      ∙ ap (λ (z : ℤ). z +ℤ pos (2 * (line_of pl h).period.0)) (sym (mover_listed h m))

  two_past_lem : (h : ℕ) → moves (row_of (line_of pl h)) ≡ true → reach_of (plan_reaches pl) (line_of pl h) + (line_of pl h).period.0 ≡ two_past pl h
  two_past_lem h m = ap nat_abs (mover_past h m)

  -- which is not below 0
  pub past_whole : (h : ℕ) → moves (row_of (line_of pl h)) ≡ true → pos (two_past pl h) ≡ bound_of pl h +ℤ pos (2 * (line_of pl h).period.0)
  past_whole h m = ap pos (sym (two_past_lem h m)) ∙ mover_past h m

  module _ (k : PlanKept pl) where
    -- the upper mover of a core
    upper_line : (p h : ℕ) → upper p (row_of (line_of pl h)) ≡ true → upper_on p pl.lines ≡ line_of pl h
    upper_line p h u =
        let lns : List Line = pl.lines in
        let m = and_left (moves (row_of (line_of pl h))) (has p (row_of (line_of pl h))) (upper_moves p (row_of (line_of pl h)) u) in
        let f : seek (upper p) (map row_of lns) ≡ h = upper_found k.structure p h (rw (get_or-map row_of lns h no_line) u) in
        first_seek (upper p) lns (rw f (line_there lns h m)) ∙ ap (λ (j : ℕ). get_or lns j no_line) f

    -- a mover's bound
    pub mover_bound : (i : ℕ) → moves (row_of (line_of pl i)) ≡ true → MoverBound pl i (first_core (row_of (line_of pl i)))
    unfolding reach_on
    mover_bound i e =
        let rs : List ℕ = plan_reaches pl in
        let ln : Line = line_of pl i in
        let p : ℕ = first_core (row_of ln) in
        let is = listed i (line_there pl.lines i e) in
        record {
          beside = λ h u.
              let up : Line = line_of pl h in
              let m = and_left (moves (row_of up)) (has p (row_of up)) (upper_moves p (row_of up) u) in
              is ∙ mover_late pl k i e
              ∙ ap (λ (x : Line). sub_ℕ (reach_on pl.common rs p x ln) ln.period.0) (upper_line p h u)
              ∙ ap (λ (n : ℕ). sub_ℕ (ceil_div (share_on p up * n + pl.common * (2 * up.cost.0 + ln.cost.0)) (pl.common - share_on p up)) ln.period.0)
              (two_past_lem h m);
          alone = λ none. is ∙ mover_alone pl k i e (none_pass (upper p) pl.lines none);
        }

    -- a fixed task's
    pub fixed_bound : length pl.lines ≡ tasks_limit → (i : ℕ) → fixed (row_of (line_of pl i)) ≡ true → FixedBound pl i (first_core (row_of (line_of pl i)))
    unfolding late fixed_late
    fixed_bound long i e =
        let l : ℕ = pl.common in
        let rs : List ℕ = plan_reaches pl in
        let row : List ℕ = row_of (line_of pl i) in
        let p : ℕ = first_core row in
        let still : moves row ≡ false = le-ltb 1 (parts row) (omega (arith, eqb-true (parts row) 1 e)) in
        let is : bound_of pl i ≡ pos (fixed_late l rs pl.lines p) = listed i (fixed_there pl.lines i e) ∙ rw still in
        let work = sum_on_lem pl k long p (λ ln. push rs p ln + l * (2 * ln.cost.0))
        (λ h. share_on p (line_of pl h) * two_past pl h + l * (2 * (line_of pl h).cost.0))
        (λ h m. ap (λ (n : ℕ). share_on p (line_of pl h) * n + l * (2 * (line_of pl h).cost.0))
        (two_past_lem h (and_left (moves (row_of (line_of pl h))) (has p (row_of (line_of pl h))) m))) in
        let taken = sum_on_lem pl k long p (share_on p) (λ h. share_on p (line_of pl h)) (λ h m. refl) in
        record {
          beside = is ∙ ap₂ (λ (a b : ℕ). pos (ceil_div a (l - b))) work taken;
          alone = λ none. is ∙ ap pos (fixed_alone l k.common_some rs pl.lines p (none_pass (moves_on p) pl.lines none));
        }
