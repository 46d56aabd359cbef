-- A choice and its numbers.
use Prim.Native.Nat.{ℕ, ◌<◌}
use mathlib.Core.Path.{◌≡◌, refl, sym, ap, ◌∙◌}
use native.Mathlib.Omega.{arith}
use lib.Dec.{eqb}
use borrow.Author.Tests.{ne_eqb}
use Rattle.lists.proofs.Tests.{by_cases}
use Rattle.units.specs.declared.ticks.Ticks.{Ticks}
use Rattle.core_choice.specs.declared.Side.TheVariants.{Upper, Lower}
use Rattle.core_choice.specs.declared.Choice.{Choice}
use Rattle.core_choice.specs.declared.Choice.TheVariants.{Idle, Fixed, Mover}
use Rattle.core_choice.specs.declared.Told.{Told}
use Rattle.core_choice.specs.declared.Best.{Best}
use Rattle.core_choice.specs.Choice.{choice_by}
use Rattle.core_choice.specs.Told.{told_of, choice_told}
use Rattle.core_choice.specs.Inner.{kind_by}

-- the numbers tell the choice
pub told_again : (c : Choice) → choice_told (told_of c) ≡ c
told_again Idle = refl
told_again (Fixed i d) = refl
told_again (Mover i d Upper) = refl
told_again (Mover i d Lower) = refl

-- so they settle it
pub told_same : (a b : Choice) → told_of a ≡ told_of b → a ≡ b
told_same a b e = sym (told_again a) ∙ ap choice_told e ∙ told_again b

-- the numbers of the best task, if there is one
pub best_told : (b : Best) (due : Ticks) {k : ℕ} → 0 < b.task → k ≡ kind_by b.key
    → ◌≡◌ {A = Told} (record { kind = k; task = b.task; deadline = due }) (told_of (choice_by b due.0))
best_told b due h e =
    rw (e, ne_eqb b.task 0 (λ z. absurd (omega (arith, z, h))))
    (by_cases (eqb b.key 0)
    (λ u. rw u refl)
    (λ u. by_cases (eqb b.key 1) (λ l. rw (u, l) refl) (λ l. rw (u, l) refl)))
