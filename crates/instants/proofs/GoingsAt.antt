-- Which run has each core after an instant's choices.
use Prim.Native.Nat.{ℕ, zero, suc, ◌≤◌, ◌<◌}
use mathlib.Core.Path.{◌≡◌, refl, ap, ◌∙◌}
use mathlib.Core.List.{List}
use native.Mathlib.Omega.{arith}
use lib.Dec.{eqb}
use lib.ListN.{length, get_or, length-set}
use lib.Seq.{get_or-set_same, get_or-set_other}
use borrow.Author.Tests.{eqb-true, eqb-false}
use Rattle.lists.proofs.Tests.{by_cases}
use Rattle.instants.specs.declared.Seen.{Seen}
use Rattle.goings.specs.declared.Going.{Going}
use Rattle.instants.specs.Seen.{idle}
use Rattle.goings.specs.Going.{no_going, going_of}
use Rattle.instants.specs.Goings.{goings_of}

module _ (gs : List Going) (ss : List Seen) (t : ℕ) where
  -- what core n has, of a run that had it
  abbrev goes_at : ℕ → Going → Going
  goes_at n g = going_of g (get_or ss n idle).task (get_or ss n idle).run t

  -- what it has in turn
  abbrev next_at : ℕ → Going
  next_at n = goes_at n (get_or (goings_of gs ss t n) n no_going)

  -- as many cores
  pub goings_long : (n : ℕ) → length (goings_of gs ss t n) ≡ length gs
  unfolding goings_of
  goings_long zero = refl
  goings_long (suc n) = length-set (goings_of gs ss t n) n (next_at n) ∙ goings_long n

  -- from core n on they are as they were
  pub goings_past : (n k : ℕ) → n ≤ k → get_or (goings_of gs ss t n) k no_going ≡ get_or gs k no_going
  unfolding goings_of
  goings_past zero k h = refl
  goings_past (suc n) k h =
      get_or-set_other (goings_of gs ss t n) n k (next_at n) no_going (λ e. absurd (omega (arith, e))) ∙ goings_past n k (omega arith)

  -- below it each has the run that its choice is
  pub goings_at : (n k : ℕ) → k < n → n ≤ length gs
      → get_or (goings_of gs ss t n) k no_going ≡ going_of (get_or gs k no_going) (get_or ss k idle).task (get_or ss k idle).run t
  unfolding goings_of
  goings_at zero k h l = absurd (omega arith)
  goings_at (suc n) k h l =
      by_cases (eqb k n)
      (λ e.
      rw (eqb-true k n e)
      (get_or-set_same (goings_of gs ss t n) n (next_at n) no_going (omega (arith, goings_long n)) ∙ ap (goes_at n) (goings_past n n (omega arith))))
      (λ e.
      let other = eqb-false k n e in
      get_or-set_other (goings_of gs ss t n) n k (next_at n) no_going other ∙ goings_at n k (omega (arith, other)) (omega arith))
