-- The plan of a sheet, as the code meets it.
use Prim.Native.Nat.{ℕ}
use mathlib.Core.Path.{◌≡◌, refl, ap}
use mathlib.Core.List.{List, map}
use native.Mathlib.Omega.{arith}
use borrow.Author.Tests.{ne_eqb}
use lib.ListN.{length}
use Rattle.lists.specs.Lists.{zeros}
use Rattle.units.specs.Refusals.{refusal, taken}
use Rattle.writing.specs.Wrote.{Wrote}
use Rattle.planning.specs.Plan.{plan_of}
use Rattle.planning.specs.Plan.{Planned}
use Rattle.name_list.specs.Names.{names_text}
use Rattle.tick_length.specs.Inner.{held}
use Rattle.sheet_text.specs.Job.{Job, names_in, ticks_in}
use Rattle.sheet_text.specs.Sheet.{says, refused_by, sheet_of}
use Rattle.sheet_reading.specs.Read.{names_limit, unread, planned, answered, plan_sheet}
use Rattle.sheet_reading.specs.Read.{Sheet}
use Rattle.sheet_reading.proofs.Held.{plan_held}

-- the answer of a sheet that is taken
abbrev told : ℕ → List ℕ → ℕ → Planned → Sheet
told tick names n p = record { refusal = taken; tick = tick; names = names; length = n; plan = p.plan }

module _ (tick : ℕ) (js : List Job) {p q : Planned} (e : p ≡ q) where
  -- planning refuses it
  pub plan_no : (p.refusal.no ≡ 0 → ⊥) → unread p.refusal ≡ planned tick js q
  unfolding planned
  plan_no h = rw (← e, ne_eqb p.refusal.no 0 h) refl

  -- it is taken
  pub plan_is : {names : List ℕ} {n : ℕ} → p.refusal.no ≡ 0 → Wrote (zeros names_limit) 0 (names_text (names_in js)) names n
      → told tick names n p ≡ planned tick js q
  unfolding planned
  plan_is {names} {n} h w =
      let k : n ≡ length (names_text (names_in js)) = omega (arith, w.end) in
      rw (← e, h, w.bytes, k) refl

module _ (m : ℕ) (s : List ℕ) where
  -- a refused sheet
  pub sheet_no_lem : {n : ℕ} → sheet_of s ≡ refused_by n → unread (refusal n 0) ≡ plan_sheet m s
  unfolding plan_sheet answered
  sheet_no_lem e = rw e refl

  -- another is planned in the numbers as held, which have the plan of the exact ones
  pub sheet_planned : (tick : ℕ) (js : List Job) {table : List ℕ} → sheet_of s ≡ says tick js → table ≡ map held (ticks_in tick js)
      → planned tick js (plan_of m table) ≡ plan_sheet m s
  unfolding plan_sheet answered
  sheet_planned tick js e t = rw (e, t) (ap (planned tick js) (plan_held m (ticks_in tick js)))
