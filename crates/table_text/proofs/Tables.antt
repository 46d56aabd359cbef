-- The equations of the task lines, as the code meets them: one line and those after it.
use Rattle.std.specs.declared.option.Option.TheVariants.{Some, None}
use Prim.Native.Nat.{ℕ, zero, suc, ◌+◌, ◌≤◌, ◌<◌}
use mathlib.Core.Path.{◌≡◌, refl}
use mathlib.Core.List.{List, [], ◌∷◌}
use borrow.Author.Tests.{lt-ltb, le-ltb}
use lib.ListN.{length}
use Rattle.table_text.specs.Text.{number_bound, task_line, then_later, numbers_from}
use lib.Dec.{ltb}
use Rattle.lists.proofs.Tests.{by_cases}
use Rattle.writing.specs.Ascii.{blank}
use Rattle.scanning.specs.Line.{pair_at}
use Rattle.scanning.proofs.Fields.{pair_kept, pair_ends}
use native.Mathlib.Omega.{arith}

-- a task's line: its numbers are below 2^32, and it has four bytes or more
pub task_kept : (s : List ℕ) (at c t a : ℕ) → task_line s at ≡ Some (c, t, a) → (c < number_bound) × (t < number_bound) × (at + 4 ≤ a)
task_kept s at c t a e = pair_kept number_bound s at c t a (omega arith) e

-- and it stands within the text
pub task_inside : (s : List ℕ) (at c t a : ℕ) → task_line s at ≡ Some (c, t, a) → at < length s
unfolding pair_at
task_inside s at c t a e = omega (arith, (task_kept s at c t a e).2, pair_ends number_bound blank s at c t a e)

module _ (s : List ℕ) (at : ℕ) where
  -- at the end of the text there is no number
  pub numbers_done : (f : ℕ) → length s ≤ at → numbers_from f s at ≡ []
  unfolding numbers_from
  numbers_done zero h = refl
  numbers_done (suc f) h = rw (le-ltb at (length s) h)

  -- where no task's line can be read there is none
  pub numbers_none : (f : ℕ) → task_line s at ≡ None → numbers_from f s at ≡ []
  unfolding numbers_from then_later
  numbers_none zero p = refl
  numbers_none (suc f) p = by_cases (ltb at (length s)) (λ h. rw (h, p) refl) (λ h. rw h refl)

  module _ (f g : ℕ) (e : f ≡ suc g) (h : at < length s) where
    -- a task's numbers come before the later ones
    pub numbers_later : {c t next : ℕ} → task_line s at ≡ Some (c, t, next) → numbers_from f s at ≡ c ∷ t ∷ numbers_from g s next
    unfolding numbers_from then_later
    numbers_later p = rw (e, lt-ltb at (length s) h, p)
