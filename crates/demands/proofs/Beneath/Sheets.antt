-- A sheet by what it says: planning's refusals, and what a sheet that is taken gives.
use Prim.Native.Nat.{ℕ, zero, suc, ◌+◌, ◌-◌, ◌≤◌, ◌<◌}
use mathlib.Core.Path.{◌≡◌, refl, ap, ◌∙◌}
use mathlib.Core.Logic.{◌↔◌}
use mathlib.Core.List.{List, ◌++◌}
use native.Mathlib.Omega.{arith}
use borrow.Author.Tests.{eqb-true, eqb-false}
use lib.Dec.{eqb}
use lib.ListN.{length, drop}
use lib.Seq.{sets}
use Rattle.writing.specs.Wrote.{Wrote}
use Rattle.writing.proofs.Wrote.{whole}
use Rattle.lists.specs.Lists.{zeros}
use Rattle.lists.proofs.Tests.{by_cases}
use Rattle.units.specs.Refusals.{refusal}
use Rattle.units.specs.Refusals.{Refusal}
use Rattle.admission.specs.Admission.{plan_refusal}
use Rattle.admission.specs.Given.{Taken, Given}
use Rattle.admission.proofs.Exactly.{exactly_taken}
use Rattle.admission.proofs.FirstThatApplies.{given}
use Rattle.name_list.specs.Names.{names_text}
use Rattle.sheet_text.specs.Job.{Job, names_in, ticks_in}
use Rattle.sheet_text.specs.Sheet.{says}
use Rattle.sheet_text.specs.Grammar.{Says}
use Rattle.sheet_text.proofs.EverySheet.{reads}
use Rattle.sheet_reading.specs.Read.{names_limit, unread, plan_sheet}
use Rattle.sheet_reading.specs.Read.{Sheet}
use Rattle.sheet_reading.proofs.Taken.{read_sheet, names_short}
use Rattle.sheet_reading.proofs.Taken as Read
use Rattle.sheet_reading.proofs.Words.{sheet_planning, sheet_taken}

-- what is left of zeros
drop_zeros : (k n : ℕ) → drop k (zeros n) ≡ zeros (n - k)
drop_zeros zero n = let e : n ≡ n - 0 = omega arith in ap zeros e
drop_zeros (suc k) zero = let e : 0 ≡ 0 - suc k = omega arith in ap zeros e
drop_zeros (suc k) (suc n) = let e : n - k ≡ suc n - suc k = omega arith in drop_zeros k n ∙ ap zeros e

-- the number of a refusal
number : {a b : Refusal} → a ≡ b → a.no ≡ b.no
number e = ap (λ (r : Refusal). r.no) e

module _ (m : ℕ) {s : List ℕ} {tick : ℕ} {js : List Job} (h : Says s (says tick js)) where
  -- planning refuses the sheet exactly where it refuses the table
  pub planning_refuses : (n i : ℕ) → 0 < n → n ≤ 6 → ((plan_sheet m s).refusal ≡ refusal n i) ↔ Given m (ticks_in tick js) n i
  unfolding unread
  planning_refuses n i some few = (to, from)
    where
      to : (plan_sheet m s).refusal ≡ refusal n i → Given m (ticks_in tick js) n i
      to e =
          by_cases (eqb (plan_refusal m (ticks_in tick js)).no 0)
          (λ z. absurd (omega (arith, number (rw (sheet_taken m h (eqb-true _ 0 z)) at e), some)))
          (λ z. (given m (ticks_in tick js) n i).0 (rw (sheet_planning m h (eqb-false _ 0 z)) at e))

      from : Given m (ticks_in tick js) n i → (plan_sheet m s).refusal ≡ refusal n i
      from g =
          let e = (given m (ticks_in tick js) n i).1 g in
          ap (λ (x : Sheet). x.refusal) (sheet_planning m h (λ z. omega (arith, number e, z, some))) ∙ e

  -- it is taken exactly where the table is
  pub taken_exactly : ((plan_sheet m s).refusal ≡ refusal 0 0) ↔ Taken m (ticks_in tick js)
  unfolding unread
  taken_exactly = (to, λ t. ap (λ (x : Sheet). x.refusal) (sheet_taken m h ((exactly_taken m (ticks_in tick js)).1 t)))
    where
      to : (plan_sheet m s).refusal ≡ refusal 0 0 → Taken m (ticks_in tick js)
      to e =
          by_cases (eqb (plan_refusal m (ticks_in tick js)).no 0)
          (λ z. (exactly_taken m (ticks_in tick js)).0 (eqb-true _ 0 z))
          (λ z. absurd (eqb-false (plan_refusal m (ticks_in tick js)).no 0 z (number (rw (sheet_planning m h (eqb-false _ 0 z)) at e))))

  -- refused, every other number is 0
  pub refused_empty : ((plan_refusal m (ticks_in tick js)).no ≡ 0 → ⊥) → plan_sheet m s ≡ unread (plan_refusal m (ticks_in tick js))
  refused_empty n = sheet_planning m h n

  module _ (t : Taken m (ticks_in tick js)) where
    read : plan_sheet m s ≡ read_sheet m tick js
    read = sheet_taken m h ((exactly_taken m (ticks_in tick js)).1 t)

    -- taken, the names stand in their bytes, a name a line, and zeros after them
    pub names_are : (plan_sheet m s).names ≡ names_text (names_in js) ++ zeros (832 - length (names_text (names_in js)))
    names_are =
        let text = names_text (names_in js) in
        let e : Read.Taken m s = record { tick = tick; jobs = js; said = reads s h; admitted = (exactly_taken m (ticks_in tick js)).1 t; is = read } in
        let k : length text ≤ names_limit = names_short e in
        let w : Wrote (zeros names_limit) 0 text (sets (zeros names_limit) 0 text) (0 + length text) = record { bytes = refl; end = refl } in
        ap (λ (x : Sheet). x.names) read
        ∙ whole w k
        ∙ ap (λ (l : List ℕ). text ++ l) (drop_zeros (length text) names_limit)
