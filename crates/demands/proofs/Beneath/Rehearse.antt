-- What the program `rehearse` writes, by what its input says; and of its arrivals none is refused, or one is the first that is.
use Prim.Native.Nat.{ℕ, zero, suc, ◌+◌, ◌-◌, ◌≤◌, ◌<◌}
use mathlib.Core.Path.{◌≡◌, refl, sym, ap, ◌∙◌}
use mathlib.Core.Logic.{◌⊎◌, inl, inr}
use mathlib.Core.Bool.{Bool, true, false}
use mathlib.Core.List.{List}
use native.Mathlib.Omega.{arith}
use lib.Dec.{eqb}
use borrow.Author.Tests.{eqb-true, eqb-false}
use Rattle.lists.proofs.Tests.{by_cases}
use Rattle.units.specs.Limits.{clock_limit}
use Rattle.units.specs.Refusals.{refusal, clock_no, arrival_no}
use Rattle.units.specs.Refusals.{Refusal}
use Rattle.writing.specs.Refused.{refusal_text}
use Rattle.admission.specs.Admission.{plan_refusal}
use Rattle.admission.specs.Given.{Given, Taken}
use Rattle.admission.proofs.Exactly.{exactly_taken}
use Rattle.admission.proofs.FirstThatApplies.{given}
use Rattle.planning.specs.declared.Plan.{Plan}
use Rattle.planning.specs.Plan.{plan_of}
use Rattle.planning.proofs.Answer.{refused_is}
use Rattle.soundness.proofs.Taken.{plan_number}
use Rattle.arrivals.specs.Arrivals.{arrivals_in, arrival_tests, refusal_from, arrivals_refusal}
use Rattle.arrivals.specs.Fine.{First}
use Rattle.arrivals.proofs.Exactly.{refused_exactly}
use Rattle.arrivals.proofs.Passed.{fine, fine_taken}
use Rattle.day_rules.specs.Day.{day_text}
use Rattle.day_text.specs.Input.{rehearses, day_of}
use Rattle.rehearsal_answer.specs.Answer.{tested_text, rehearsal_text}
use Rattle.rehearsal_answer.proofs.Texts.{arrival_refused, line_left, day_follows, table_refused, stop_above, stop_within, input_good}

module _ (s : List ℕ) {m stop : ℕ} {xs ys : List ℕ} {more : Bool} (e : day_of s ≡ rehearses m xs stop ys more) where
  -- planning's
  pub then_planning : (n i : ℕ) → 0 < n → Given m xs n i → rehearsal_text s ≡ refusal_text (refusal n i)
  then_planning n i some g =
      let r = (given m xs n i).1 g in
      let not : (plan_refusal m xs).no ≡ 0 → ⊥ = λ z. omega (arith, some, ap (λ (x : Refusal). x.no) r, z) in
      sym (table_refused m xs stop ys more refl (λ z. not (sym (plan_number m xs) ∙ z)) ∙ input_good s e)
      ∙ ap refusal_text (refused_is m xs not ∙ r)

  module _ (t : Taken m xs) where
    none : (plan_of m xs).refusal.no ≡ 0
    none = plan_number m xs ∙ (exactly_taken m xs).1 t

    -- 12
    pub then_12 : clock_limit < stop → rehearsal_text s ≡ refusal_text (refusal clock_no 0)
    then_12 k = sym (stop_above m xs stop ys more refl none k ∙ input_good s e)

    module _ (upto : stop ≤ clock_limit) where
      abbrev pl : Plan
      pl = (plan_of m xs).plan

      tested : tested_text pl stop ys more ≡ rehearsal_text s
      tested = stop_within m xs stop ys more refl none upto ∙ input_good s e

      -- an arrival's
      pub then_arrivals : (r k : ℕ) → (r ≡ 0 → ⊥) → First pl ys (arrivals_in ys) r k → rehearsal_text s ≡ refusal_text (refusal r (k + 1))
      then_arrivals r k n f = sym (arrival_refused pl stop ys more (sym ((refused_exactly pl ys (arrivals_in ys) r k n).1 f)) n ∙ tested)

      module _ (passed : arrivals_refusal pl ys (arrivals_in ys) ≡ refusal 0 0) where
        -- a line that is left
        pub then_25 : more ≡ true → rehearsal_text s ≡ refusal_text (refusal arrival_no (arrivals_in ys + 1))
        then_25 h = sym (line_left pl stop ys more (sym passed) refl h ∙ tested)

        -- the day
        pub else_day : more ≡ false → rehearsal_text s ≡ day_text pl ys stop
        else_day h = sym (day_follows pl stop ys more (sym passed) refl h ∙ tested)

module _ (pl : Plan) (xs : List ℕ) where
  -- a refusal names an arrival, from 1
  named_from : (i n : ℕ) → ((refusal_from pl xs i n).no ≡ 0 → ⊥) → 0 < (refusal_from pl xs i n).named
  unfolding refusal_from
  named_from i zero f = absurd (f refl)
  named_from i (suc n) f =
      by_cases (eqb (arrival_tests pl xs i) 0)
      (λ h. rw h (named_from (i + 1) n (rw h at f)))
      (λ h. rw (h, h) (omega arith))

  pub first_or_none : (n : ℕ) → (arrivals_refusal pl xs n ≡ refusal 0 0) ⊎ ((r : ℕ) × (k : ℕ) × (r ≡ 0 → ⊥) × First pl xs n r k)
  unfolding arrivals_refusal
  first_or_none n =
      let x = arrivals_refusal pl xs n in
      by_cases (eqb x.no 0)
      (λ h. inl (fine_taken pl xs n (fine pl xs n (eqb-true x.no 0 h))))
      (λ h.
      let f = eqb-false x.no 0 h in
      let e : x.named ≡ x.named - 1 + 1 = omega (arith, named_from 0 n f) in
      inr (x.no, x.named - 1, f, (refused_exactly pl xs n x.no (x.named - 1) f).0 (ap (refusal x.no) e)))
