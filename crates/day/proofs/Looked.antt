-- What a look at each core does to a desk, and that looking again changes nothing.
use Prim.Native.Nat.{ℕ, zero, suc, ◌≤◌, ◌<◌}
use mathlib.Core.Path.{◌≡◌, refl, ap, ◌∙◌}
use mathlib.Core.List.{List, append-nil}
use native.Mathlib.Decide.{ℕ_discrete}
use native.Mathlib.Omega.{arith}
use lib.Dec.{eqb}
use lib.ListN.{length, get_or, set, length-set}
use lib.Seq.{get_or-set_same, get_or-set_other, set-get_or}
use borrow.Author.Tests.{eqb-true, eq-eqb}
use Rattle.lists.proofs.Tests.{by_cases, and_left, and_right, and_true}
use Rattle.planning.specs.declared.Plan.{Plan}
use Rattle.goings.specs.declared.Going.{Going}
use Rattle.goings.specs.Going.{no_going, same, going_of}
use Rattle.day_lines.specs.declared.Event.{Event}
use Rattle.day.specs.Desk.{Desk, run_of, choice_at, number_of, looks_at, looked_at}

-- the run that goes on is the choice
pub goes_task : (g : Going) (i n t : ℕ) → (going_of g i n t).task ≡ i
goes_task g i n t = by_cases (same g i n) (λ e. rw e (eqb-true g.task i (and_left (eqb g.task i) (eqb g.run n) e))) (λ e. rw e)

pub goes_run : (g : Going) (i n t : ℕ) → (going_of g i n t).run ≡ n
goes_run g i n t = by_cases (same g i n) (λ e. rw e (eqb-true g.run n (and_right (eqb g.task i) (eqb g.run n) e))) (λ e. rw e)

-- a choice is made by the states alone
pub choice_by_lem : (pl : Plan) (t : ℕ) (d e : Desk) (p : ℕ) → d.states ≡ e.states → choice_at pl t d p ≡ choice_at pl t e p
unfolding choice_at
choice_by_lem pl t d e p q = rw q refl

-- and a run's number by the lengths
pub number_by : (d e : Desk) (i : ℕ) → d.works ≡ e.works → number_of d i ≡ number_of e i
number_by d e i q = rw q refl

module _ (pl : Plan) (t : ℕ) (d : Desk) where
  -- states, lengths and ticks stay
  pub looked_states : (n : ℕ) → (looked_at pl t n d).states ≡ d.states
  unfolding looks_at
  looked_states zero = refl
  looked_states (suc n) = looked_states n

  pub looked_works : (n : ℕ) → (looked_at pl t n d).works ≡ d.works
  unfolding looks_at
  looked_works zero = refl
  looked_works (suc n) = looked_works n

  pub looked_had : (n : ℕ) → (looked_at pl t n d).had ≡ d.had
  unfolding looks_at
  looked_had zero = refl
  looked_had (suc n) = looked_had n

  pub looked_long : (n : ℕ) → length (looked_at pl t n d).going ≡ length d.going
  unfolding looks_at
  looked_long zero = refl
  looked_long (suc n) = length-set (looked_at pl t n d).going n _ ∙ looked_long n

  -- core p's choice, and its run's number
  abbrev pub choice : ℕ → ℕ
  choice p = choice_at pl t d p

  abbrev pub number : ℕ → ℕ
  number p = number_of d (choice p)

  -- what core n's look stores
  looked_next : (n : ℕ) → (looked_at pl t (suc n) d).going ≡ set (looked_at pl t n d).going n (going_of (run_of (looked_at pl t n d) n) (choice n) (number n) t)
  unfolding looks_at
  looked_next n =
      let e = looked_at pl t n d in
      rw (choice_by_lem pl t e d n (looked_states n), number_by e d (choice n) (looked_works n)) refl

  -- a core that was not looked at has its run
  pub looked_past : (n p : ℕ) → n ≤ p → run_of (looked_at pl t n d) p ≡ run_of d p
  looked_past zero p h = refl
  looked_past (suc n) p h =
      rw (looked_next n) (get_or-set_other (looked_at pl t n d).going n p _ no_going (λ e. omega (arith, e)) ∙ looked_past n p (omega (arith, h)))

  -- one that was has its choice
  pub looked_at_lem : (n p : ℕ) → p < n → n ≤ length d.going → run_of (looked_at pl t n d) p ≡ going_of (run_of d p) (choice p) (number p) t
  looked_at_lem zero p h l = absurd (omega arith)
  looked_at_lem (suc n) p h l = rw (looked_next n) (go (λ b. looked_at_lem n p b (omega (arith, l))) (ℕ_discrete p n))
    where
      v : Going
      v = going_of (run_of (looked_at pl t n d) n) (choice n) (number n) t

      go : (p < n → run_of (looked_at pl t n d) p ≡ going_of (run_of d p) (choice p) (number p) t) → Dec (p ≡ n)
          → get_or (set (looked_at pl t n d).going n v) p no_going ≡ going_of (run_of d p) (choice p) (number p) t
      go below (yes e) =
          rw e (get_or-set_same (looked_at pl t n d).going n v no_going (omega (arith, l, looked_long n))
          ∙ ap (λ (g : Going). going_of g (choice n) (number n) t) (looked_past n n (omega arith)))
      go below (no e) = get_or-set_other (looked_at pl t n d).going n p v no_going e ∙ below (omega (arith, h, e))

module _ (pl : Plan) (t : ℕ) (d : Desk) where
  -- where each of the first n cores has its choice, looking at them changes nothing
  pub looked_again : (n : ℕ) → ((p : ℕ) → p < n → ((run_of d p).task ≡ choice_at pl t d p) × ((run_of d p).run ≡ number_of d (choice_at pl t d p)))
      → looked_at pl t n d ≡ d
  unfolding looks_at
  looked_again zero h = refl
  looked_again (suc n) h =
      let g = run_of d n in
      let i = choice_at pl t d n in
      let k = number_of d i in
      let c = h n (omega arith) in
      rw (
        looked_again n (λ p l. h p (omega (arith, l))),
        and_true (eqb g.task i) (eqb g.run k) (eq-eqb g.task i c.0) (eq-eqb g.run k c.1),
      )
      (again (set-get_or d.going n no_going) (append-nil d.said))
    where
      again : {gs : List Going} {es : List Event} → gs ≡ d.going → es ≡ d.said
          → ◌≡◌ {A = Desk} (record { states = d.states; works = d.works; had = d.had; going = gs; said = es }) d
      again e f = rw (e, f) refl
