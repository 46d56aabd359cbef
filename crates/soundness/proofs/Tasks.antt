-- The tasks of a plan tested from the last to the first.
use Prim.Native.Nat.{ℕ, ◌+◌, ◌*◌, ◌/◌, ◌%◌, ◌≤◌, ◌<◌, ◌∣◌}
use mathlib.Core.Path.{◌≡◌, refl, sym, ap, ◌∙◌}
use mathlib.Core.Bool.{true, false, ◌&&◌, and-false}
use mathlib.Core.List.{List, [], ◌∷◌, map}
use native.Mathlib.Omega.{arith}
use native.Mathlib.Numerals.{add-one}
use native.Mathlib.Nat.{zero-mul, mod-eq-zero_of_dvd, dvd_of_mod-eq-zero, eq-zero_of_zero-dvd, div-mul_cancel}
use lib.Dec.{eqb}
use lib.ListN.{length, get_or, take, drop, length-map, drop_of_length-le, get_or-map}
use lib.Seq.{drop-cons, get_or-take, length-take-le}
use borrow.Author.Tests.{eqb-true, eqb-false, eq-eqb, lt-ltb, le-ltb}
use Rattle.units.specs.Limits.{tasks_limit}
use Rattle.lists.proofs.Tests.{by_cases, and_right, and_true, same_bool}
use Rattle.arith.specs.Divisor.{gcd}
use Rattle.arith.specs.Period.{common}
use Rattle.arith.proofs.Euclid.{gcd_right}
use Rattle.arith.proofs.Common.{Each, common_each}
use Rattle.arith.proofs.Cofactor.{gcd_all, cofactors, cofactor_common, common_cofactor}
use Rattle.planning.specs.declared.Line.{Line}
use Rattle.planning.specs.declared.Plan.{Plan}
use Rattle.planning.specs.Plan.{no_line}
use Rattle.soundness.specs.Rules.{common_is, line_empty}
use Rattle.lists.specs.Below.{all_below}
use Rattle.soundness.specs.Plan.{line_sound, line_ok}
use Rattle.soundness.specs.Inner.{divisor_with}
use Rattle.lists.proofs.Below.{all_suc}
use Rattle.soundness.proofs.Numbers.{Numbers}

-- a period that divides L: its quotient is joined to the others
joined : (g l t : ℕ) → (divisor_with g l t ≡ 0 → ⊥) → (t ∣ l) × (divisor_with g l t ≡ gcd g (l / t))
joined g l t z =
    by_cases (eqb (l % t) 0)
    (λ u. (dvd_of_mod-eq-zero t (eqb-true (l % t) 0 u), rw u))
    (λ u. absurd (z (rw u)))

-- nothing but 0 divides a quotient of 0
parted : (g l t : ℕ) → t ∣ l → divisor_with g l t ≡ 0 → l ≡ 0
parted g l t d e =
    let z : gcd g (l / t) ≡ 0 = rw (eq-eqb (l % t) 0 (mod-eq-zero_of_dvd t d)) at e in
    let q : l / t ≡ 0 = eq-zero_of_zero-dvd (rw z at (gcd_right g (l / t))) in
    sym (div-mul_cancel t d) ∙ ap (λ (x : ℕ). x * t) q ∙ zero-mul t

-- the rules for a task, and for a line past the last
pub task_ok : (pl : Plan) (i : ℕ) → i < pl.count → line_ok pl i ≡ line_sound pl.common (get_or pl.lines i no_line)
task_ok pl i h = rw (lt-ltb i pl.count h)

past_ok : (pl : Plan) (i : ℕ) → pl.count ≤ i → line_ok pl i ≡ line_empty (get_or pl.lines i no_line)
past_ok pl i h = rw (le-ltb i pl.count h)

-- the periods of the tasks
abbrev pub periods_of : Plan → List ℕ
periods_of pl = map (λ (ln : Line). ln.period.0) (take pl.count pl.lines)

-- the period of task i
abbrev pub period_at : Plan → ℕ → ℕ
period_at pl i = (get_or pl.lines i no_line).period.0

-- the tasks from i on are sound, their periods divide L, and g is the greatest common divisor of the quotients
pub record Checked (pl : Plan) (g i : ℕ) : Type 0 where
  pub below : i ≤ tasks_limit
  pub lines : all_below tasks_limit (line_ok pl) ≡ all_below i (line_ok pl)
  pub each : (j : ℕ) → i ≤ j → j < pl.count → period_at pl j ∣ pl.common
  pub divisor : g ≡ gcd_all (cofactors pl.common (drop i (periods_of pl)))

module _ (pl : Plan) (n : Numbers pl) (long : length pl.lines ≡ tasks_limit) where
  periods_long : length (periods_of pl) ≡ pl.count
  periods_long = length-map (take pl.count pl.lines) (λ (ln : Line). ln.period.0) ∙ length-take-le pl.count pl.lines
      (omega (arith, n.count_few, long))

  periods_at : (i : ℕ) → i < pl.count → get_or (periods_of pl) i 0 ≡ period_at pl i
  periods_at i h = get_or-map (λ (ln : Line). ln.period.0) (take pl.count pl.lines) i no_line ∙ ap (λ (ln : Line). ln.period.0)
      (get_or-take pl.count pl.lines i no_line h)

  -- the period of task i, and those after it
  periods_from : (i : ℕ) → i < pl.count → drop i (periods_of pl) ≡ period_at pl i ∷ drop (i + 1) (periods_of pl)
  periods_from i h = rw (add-one i, ← (periods_at i h)) (drop-cons (periods_of pl) i 0 (omega (arith, periods_long)))

  none_left : (i : ℕ) → pl.count ≤ i → drop i (periods_of pl) ≡ []
  none_left i h = drop_of_length-le (periods_of pl) {i = i} (omega (arith, periods_long))

  -- at first
  pub start : Checked pl 0 tasks_limit
  start = record {
    below = omega arith;
    lines = refl;
    each = λ j h k. absurd (omega (arith, n.count_few));
    divisor = rw (none_left tasks_limit n.count_few);
  }

  -- each period divides the common period
  divides : common_is pl ≡ true → (i : ℕ) → i < pl.count → period_at pl i ∣ pl.common
  divides e i h =
      rw (eqb-true pl.common (common (periods_of pl)) e, ← (periods_at i h)) (common_each (periods_of pl) i (omega (arith, periods_long)))

  -- a period that does not divide L
  pub period_breaks : (g i : ℕ) → i < pl.count → divisor_with g pl.common (period_at pl i) ≡ 0 → (all_below tasks_limit (line_ok pl) && common_is pl) ≡ false
  period_breaks g i h e =
      by_cases (common_is pl)
      (λ t. absurd (omega (arith, n.common_some, parted g pl.common (period_at pl i) (divides t i h) e)))
      (λ f. rw f (and-false (all_below tasks_limit (line_ok pl))))

  module _ (g i : ℕ) (k : Checked pl g (i + 1)) where
    breaks : line_ok pl i ≡ false → (all_below tasks_limit (line_ok pl) && common_is pl) ≡ false
    breaks e = rw (k.lines, all_suc (line_ok pl) i, e)

    holds : line_ok pl i ≡ true → all_below tasks_limit (line_ok pl) ≡ all_below i (line_ok pl)
    holds e = k.lines ∙ all_suc (line_ok pl) i ∙ rw e

    module _ (h : i < pl.count) where
      -- a task that breaks a rule
      pub task_breaks : line_sound pl.common (get_or pl.lines i no_line) ≡ false → (all_below tasks_limit (line_ok pl) && common_is pl) ≡ false
      task_breaks e = breaks (task_ok pl i h ∙ e)

      -- a sound task more
      pub task_more : (g' : ℕ) → line_sound pl.common (get_or pl.lines i no_line) ≡ true → g' ≡ divisor_with g pl.common (period_at pl i) →
          (g' ≡ 0 → ⊥) → Checked pl g' i
      task_more g' e t z =
          let d = joined g pl.common (period_at pl i) (λ u. z (t ∙ u)) in
          record {
            below = omega (arith, n.count_few);
            lines = holds (task_ok pl i h ∙ e);
            each = λ j a b. by_cases (eqb j i) (λ u. rw (eqb-true j i u) d.0) (λ u. k.each j (omega (arith, eqb-false j i u)) b);
            divisor = t ∙ d.1 ∙ ap (λ (x : ℕ). gcd x (pl.common / period_at pl i)) k.divisor ∙ sym
                (ap (λ (ts : List ℕ). gcd_all (cofactors pl.common ts)) (periods_from i h));
          }

    module _ (h : pl.count ≤ i) where
      -- a line that is not empty
      pub past_breaks : line_empty (get_or pl.lines i no_line) ≡ false → (all_below tasks_limit (line_ok pl) && common_is pl) ≡ false
      past_breaks e = breaks (past_ok pl i h ∙ e)

      -- an empty line more
      pub past_more : i < tasks_limit → line_empty (get_or pl.lines i no_line) ≡ true → Checked pl g i
      past_more l e = record {
        below = omega arith;
        lines = holds (past_ok pl i h ∙ e);
        each = λ j a b. k.each j (omega arith) b;
        divisor = k.divisor ∙ rw (none_left i h, none_left (i + 1) (omega arith));
      }

  -- all lines are tested
  pub finish : (g : ℕ) → Checked pl g 0 → eqb g 1 ≡ (all_below tasks_limit (line_ok pl) && common_is pl)
  unfolding all_below
  finish g k =
      let each : Each (λ t. t ∣ pl.common) (periods_of pl) = λ i h. rw (periods_at i (omega (arith, periods_long)))
      (k.each i (omega arith) (omega (arith, periods_long))) in
      same_bool (eqb g 1) (all_below tasks_limit (line_ok pl) && common_is pl)
      (λ e. and_true (all_below tasks_limit (line_ok pl)) (common_is pl) k.lines
      (eq-eqb pl.common (common (periods_of pl)) (cofactor_common pl.common (periods_of pl) each (sym k.divisor ∙ eqb-true g 1 e))))
      (λ e. eq-eqb g 1 (k.divisor ∙ common_cofactor pl.common (periods_of pl) n.common_some (omega (arith, periods_long, n.count_some))
      (eqb-true pl.common (common (periods_of pl)) (and_right (all_below tasks_limit (line_ok pl)) (common_is pl) e))))
