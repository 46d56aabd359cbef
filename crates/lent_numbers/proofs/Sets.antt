-- Numbers stored one after another.
use Prim.Native.Nat.{ℕ, zero, suc, ◌+◌, ◌≤◌, ◌<◌}
use mathlib.Core.Path.{◌≡◌, refl, ◌∙◌}
use mathlib.Core.List.{List, [], ◌∷◌}
use native.Mathlib.Omega.{arith}
use lib.ListN.{length, get_or, set, length-set}
use lib.Seq.{sets, get_or-set_same, get_or-set_other}

-- numbers stored from place n on leave the others as they were
pub sets_other : (vs xs : List ℕ) (n q : ℕ) → ((k : ℕ) → k < length vs → q ≡ n + k → ⊥) → get_or (sets xs n vs) q 0 ≡ get_or xs q 0
sets_other [] xs n q h = refl
sets_other (v ∷ vs) xs n q h =
    sets_other vs (set xs n v) (suc n) q (λ k l e. h (suc k) (omega arith) (omega (arith, e)))
    ∙ get_or-set_other xs n q v 0 (λ e. h 0 (omega arith) (omega (arith, e)))

-- and stand there
pub sets_here : (vs xs : List ℕ) (n q k : ℕ) → q ≡ n + k → k < length vs → n + length vs ≤ length xs → get_or (sets xs n vs) q 0 ≡ get_or vs k 0
sets_here [] xs n q k e l h = absurd (omega arith)
sets_here (v ∷ vs) xs n q zero e l h =
    let at : q ≡ n = omega arith in
    sets_other vs (set xs n v) (suc n) q (λ k m d. absurd (omega (arith, d)))
    ∙ rw at (get_or-set_same xs n v 0 (omega arith))
sets_here (v ∷ vs) xs n q (suc k) e l h = sets_here vs (set xs n v) (suc n) q k (omega arith) (omega arith) (omega (arith, length-set xs n v))
