-- What an answer tells of a refusal: each reason has a number of its own, and none has 0.
use Prim.Native.Nat.{ℕ, ◌≤◌}
use mathlib.Core.Path.{◌≡◌, refl, sym, ap, ap₂, ◌∙◌}
use mathlib.Core.List.{List, [], ◌∷◌}
use native.Mathlib.Omega.{arith}
use lib.ListN.{get_or}
use Rattle.std.specs.declared.result.Result.{Result}
use Rattle.std.specs.declared.result.Result.TheVariants.{Ok, Err}
use Rattle.units.specs.Refusals.{number, told, said, number_said}
use Rattle.units.specs.Refusals.{Refusal}
use Rattle.units.specs.declared.refusal.Reason.{Reason}
use Rattle.units.specs.declared.refusal.Reason.TheVariants as Reasons
use Rattle.units.specs.declared.refusal.Refusal.{Refusal as Refused}

pub positive : (r : Reason) → 1 ≤ number r
positive Reasons.Cores = omega arith
positive Reasons.Table = omega arith
positive Reasons.Range = omega arith
positive Reasons.Cost = omega arith
positive Reasons.Period = omega arith
positive Reasons.Weights = omega arith
positive Reasons.Task = omega arith
positive Reasons.Past = omega arith
positive Reasons.Backlog = omega arith
positive Reasons.NoRun = omega arith
positive Reasons.Clock = omega arith
positive Reasons.Core = omega arith
positive Reasons.Buffer = omega arith
positive Reasons.Unsound = omega arith
positive Reasons.Text = omega arith
positive Reasons.Sheet = omega arith
positive Reasons.Name = omega arith
positive Reasons.Tick = omega arith
positive Reasons.Arrival = omega arith
positive Reasons.Length = omega arith
positive Reasons.Order = omega arith

-- a refusal is told by another number than 0
pub refuses : {A : Type 0} (r : Reason) → number r ≡ 0 → A
refuses r e = absurd (omega (arith, e, positive r))

-- the reasons in the order of their numbers, `Cores` where a number is none
reasons : List Reason
reasons =
    Reasons.Cores ∷ Reasons.Cores ∷ Reasons.Table ∷ Reasons.Range ∷ Reasons.Cost ∷ Reasons.Period ∷ Reasons.Weights ∷
    Reasons.Task ∷ Reasons.Past ∷ Reasons.Cores ∷ Reasons.Backlog ∷ Reasons.NoRun ∷ Reasons.Clock ∷ Reasons.Core ∷
    Reasons.Buffer ∷ Reasons.Unsound ∷ Reasons.Text ∷ Reasons.Sheet ∷ Reasons.Name ∷ Reasons.Tick ∷ Reasons.Cores ∷
    Reasons.Cores ∷ Reasons.Cores ∷ Reasons.Cores ∷ Reasons.Cores ∷ Reasons.Arrival ∷ Reasons.Length ∷ Reasons.Order ∷ []

back : (r : Reason) → get_or reasons (number r) Reasons.Cores ≡ r
unfolding reasons
back Reasons.Cores = refl
back Reasons.Table = refl
back Reasons.Range = refl
back Reasons.Cost = refl
back Reasons.Period = refl
back Reasons.Weights = refl
back Reasons.Task = refl
back Reasons.Past = refl
back Reasons.Backlog = refl
back Reasons.NoRun = refl
back Reasons.Clock = refl
back Reasons.Core = refl
back Reasons.Buffer = refl
back Reasons.Unsound = refl
back Reasons.Text = refl
back Reasons.Sheet = refl
back Reasons.Name = refl
back Reasons.Tick = refl
back Reasons.Arrival = refl
back Reasons.Length = refl
back Reasons.Order = refl

pub same_reason : (a b : Reason) → number a ≡ number b → a ≡ b
same_reason a b e = sym (back a) ∙ ap (λ (n : ℕ). get_or reasons n Reasons.Cores) e ∙ back b

pub same_refusal : (a b : Refused) → told a ≡ told b → a ≡ b
same_refusal a b e =
    ap₂ (λ (r : Reason) (n : ℕ). record { reason = r; named = n })
    (same_reason a.reason b.reason (ap (λ (x : Refusal). x.no) e)) (ap (λ (x : Refusal). x.named) e)

-- an answer that has no value beside its refusal is settled by the number that it tells
pub same_number : (x y : Result (Unit {0}) Reason) → number_said x ≡ number_said y → x ≡ y
same_number (Ok a) (Ok b) e = refl
same_number (Ok a) (Err s) e = refuses s (sym e)
same_number (Err r) (Ok b) e = refuses r e
same_number (Err r) (Err s) e = ap (λ (t : Reason). Err t) (same_reason r s e)

-- and by the refusal
pub same_said : (x y : Result (Unit {0}) Refused) → said x ≡ said y → x ≡ y
same_said (Ok a) (Ok b) e = refl
same_said (Ok a) (Err s) e = refuses s.reason (sym (ap (λ (x : Refusal). x.no) e))
same_said (Err r) (Ok b) e = refuses r.reason (ap (λ (x : Refusal). x.no) e)
same_said (Err r) (Err s) e = ap (λ (t : Refused). Err t) (same_refusal r s e)
