-- A list of numbers read two at a time.
use Prim.Native.Nat.{ℕ, suc, ◌+◌, ◌*◌, ◌/◌, ◌≤◌, ◌<◌}
use mathlib.Core.Path.{◌≡◌, ap, ◌∙◌}
use mathlib.Core.List.{List, ◌∷◌}
use native.Mathlib.Omega.{arith}
use lib.ListN.{length, get_or, drop, length-drop}
use lib.Seq.{drop-cons}

-- from pair k on: its two numbers, then the pairs after it
pub pair_drop : (xs : List ℕ) (k : ℕ) → 2 * k + 1 < length xs
    → drop (2 * k) xs ≡ get_or xs (2 * k) 0 ∷ get_or xs (2 * k + 1) 0 ∷ drop (2 * (k + 1)) xs
pair_drop xs k h =
    let e : suc (2 * k) ≡ 2 * k + 1 = omega arith in
    let g : suc (2 * k + 1) ≡ 2 * (k + 1) = omega arith in
    drop-cons xs (2 * k) 0 (omega arith)
    ∙ ap (λ (l : List ℕ). get_or xs (2 * k) 0 ∷ l)
    (ap (λ (n : ℕ). drop n xs) e ∙ drop-cons xs (2 * k + 1) 0 h ∙ ap (λ (n : ℕ). get_or xs (2 * k + 1) 0 ∷ drop n xs) g)

-- past the last pair less than a pair is left
pub pair_end : (xs : List ℕ) (k : ℕ) → length xs / 2 ≤ k → length (drop (2 * k) xs) < 2
pair_end xs k h = simp length-drop (omega arith)
