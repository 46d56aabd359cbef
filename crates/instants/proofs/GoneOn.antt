-- The runs that have the cores after an instant's choices, in a list of three numbers a core.
use Prim.Native.Nat.{ℕ, zero, suc, ◌*◌, ◌≤◌}
use mathlib.Core.Path.{◌≡◌, refl, sym, ap, ◌∙◌}
use mathlib.Core.List.{List}
use native.Mathlib.Omega.{arith}
use lib.ListN.{length, get_or, set}
use Rattle.units.specs.Limits.{cores_limit}
use Rattle.goings.specs.declared.Going.{Going}
use Rattle.goings.specs.Going.{no_going, going_of}
use Rattle.goings.specs.Rows.{going_at, goings_in}
use Rattle.goings.proofs.Rows.{goings_at, put_long, goings_put}
use Rattle.instants.specs.declared.Seen.{Seen}
use Rattle.instants.specs.Seen.{idle}
use Rattle.instants.specs.Goings.{goings_of, gone_on}

module _ (xs : List ℕ) (ss : List Seen) (t : ℕ) where
  -- what core n has, of a run that had it
  abbrev goes_at : ℕ → Going → Going
  goes_at n g = going_of g (get_or ss n idle).task (get_or ss n idle).run t

  -- as many numbers
  pub gone_long : (n : ℕ) → length (gone_on xs ss t n) ≡ length xs
  unfolding gone_on
  gone_long zero = refl
  gone_long (suc n) = put_long (gone_on xs ss t n) n (goes_at n (going_at (gone_on xs ss t n) n)) ∙ gone_long n

  -- they are the runs that go on
  pub gone_are : length xs ≡ 3 * cores_limit → (n : ℕ) → n ≤ cores_limit → goings_in (gone_on xs ss t n) ≡ goings_of (goings_in xs) ss t n
  unfolding gone_on goings_of
  gone_are wide zero h = refl
  gone_are wide (suc n) h =
      let ys : List ℕ = gone_on xs ss t n in
      goings_put ys (gone_long n ∙ wide) n (omega arith) (goes_at n (going_at ys n))
      ∙ ap (λ (g : Going). set (goings_in ys) n (goes_at n g)) (sym (goings_at ys n (omega arith)))
      ∙ ap (λ (gs : List Going). set gs n (goes_at n (get_or gs n no_going))) (gone_are wide n (omega arith))
