-- How many of a list of cores are core p.
use Prim.Native.Nat.{ℕ, zero, suc, ◌+◌, ◌≤◌, ◌<◌}
use mathlib.Core.Path.{◌≡◌, refl, ap, ◌∙◌}
use mathlib.Core.List.{List, [], ◌∷◌, ◌++◌}
use native.Mathlib.Omega.{arith}
use lib.Dec.{eqb}
use lib.ListN.{length, get_or, take, drop}
use lib.Seq.{take-add}
use Rattle.lists.specs.Lists.{bit}
use Rattle.turn.specs.Runs.{core_of_run}
use Rattle.turn.proofs.Sent.{sent}
use Rattle.dispatch.specs.Calls.{among, sent_to, in_a_row}

module _ (p : ℕ) where
  -- one more
  sent_more : (ks : List ℕ) (c : ℕ) → c < length ks → sent_to p ks (suc c) ≡ sent_to p ks c + bit (eqb (get_or ks c 0) p)
  sent_more [] c h = absurd (omega arith)
  sent_more (k ∷ ks) zero h = omega arith
  sent_more (k ∷ ks) (suc c) h = omega (arith, sent_more ks c (omega arith))

  -- of two lists
  among_both : (xs ys : List ℕ) → among p (xs ++ ys) ≡ among p xs + among p ys
  among_both [] ys = omega arith
  among_both (x ∷ xs) ys = omega (arith, among_both xs ys)

  -- in a row after the first a
  pub sent_row : (ks : List ℕ) (a c : ℕ) → sent_to p ks (a + c) ≡ sent_to p ks a + in_a_row p ks a c
  sent_row ks a c = ap (among p) (take-add a c ks) ∙ among_both (take a ks) (take c (drop a ks))

  -- where the cores are those of a task's runs, so many were sent
  pub sent_are : (w : ℕ) (ss ks : List ℕ) → ((c : ℕ) → c < length ks → get_or ks c 0 ≡ core_of_run w ss c)
      → (c : ℕ) → c ≤ length ks → sent_to p ks c ≡ sent w ss p c
  unfolding sent
  sent_are w ss ks are zero h = refl
  sent_are w ss ks are (suc c) h =
      rw (sent_more ks c h, are c h) (ap (λ (n : ℕ). n + bit (eqb (core_of_run w ss c) p)) (sent_are w ss ks are c (omega arith)))
