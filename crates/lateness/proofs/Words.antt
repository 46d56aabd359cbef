-- What the definitions say in the words of document 01.
use Prim.Native.Nat.{ℕ, ◌+◌, ◌*◌, ◌-◌, ◌≤◌, ◌<◌}
use mathlib.Core.Path.{◌≡◌, sym, ap, ap₂, ◌∙◌}
use mathlib.Core.List.{List, map}
use native.Mathlib.Omega.{arith}
use native.Mathlib.Nat.{le_of_mul-le-mul_right}
use lib.IntN.{pos, sub_ℕ, ◌+ℤ◌, -ℤ-+ℤ_cancel, +ℤ_assoc}
use Rattle.lists.specs.Rows.{how_many}
use Rattle.arith.specs.Ceiling.{ceil_div}
use Rattle.arith.proofs.Rounding.{ceil_least}
use Rattle.task_shares.specs.Movers.{moves_on}
use Rattle.planning.specs.declared.Line.{Line}
use Rattle.planning.specs.Plan.{empty_line, row_of}
use Rattle.lateness.specs.Lateness.{over_movers, share_on, push, reach_on, fixed_late}
use Rattle.lateness.proofs.Pair.{empty_share, empty_load, over_nobody}
use Rattle.arith.proofs.Signed.{pos_sub}

-- a reach R is D + T, so that R + T is D + 2T
pub reach_says : (r t : ℕ) → pos (r + t) ≡ sub_ℕ r t +ℤ pos (2 * t)
reach_says r t =
    let d : sub_ℕ r t +ℤ pos t ≡ pos r = ap (λ z. z +ℤ pos t) (sym (pos_sub r t)) ∙ -ℤ-+ℤ_cancel (pos r) (pos t) in
    let e : t + t ≡ 2 * t = omega arith in
    ap (λ z. z +ℤ pos t) (sym d) ∙ +ℤ_assoc (sub_ℕ r t) (pos t) (pos t) ∙ ap (λ n. sub_ℕ r t +ℤ pos n) e

-- a multiple is divided without rest
ceil_mul : (l c : ℕ) → 0 < l → ceil_div (l * c) l ≡ c
ceil_mul l c h =
    let q : ℕ = ceil_div (l * c) l in
    let a : q ≤ c = (ceil_least (l * c) l c h).1 (omega arith) in
    let b : l * c ≤ q * l = (ceil_least (l * c) l q h).0 (omega arith) in
    let d : c ≤ q = le_of_mul-le-mul_right {k = l} (omega arith) h in
    omega arith

-- with no upper mover on its first core a mover's reach is C, so that its bound is C - T
pub reach_alone : (l : ℕ) → 0 < l → (rs : List ℕ) (p : ℕ) (ln : Line) → reach_on l rs p empty_line ln ≡ ln.cost.0
unfolding reach_on
reach_alone l h rs p ln =
    ap₂ ceil_div (omega (arith, empty_load rs p l)) (omega (arith, empty_share p)) ∙ ceil_mul l ln.cost.0 h

-- with no mover on their core the bound of fixed tasks is 0
pub fixed_alone : (l : ℕ) → 0 < l → (rs : List ℕ) (lns : List Line) (p : ℕ) → how_many (moves_on p) (map row_of lns) ≡ 0 → fixed_late l rs lns p ≡ 0
unfolding fixed_late
fixed_alone l h rs lns p e =
    let work = over_nobody p (λ ln. push rs p ln + l * (2 * ln.cost.0)) lns e in
    let left : l - over_movers p (share_on p) lns ≡ l = omega (arith, over_nobody p (share_on p) lns e) in
    ap₂ ceil_div work left ∙ omega (arith, (ceil_least 0 l 0 h).1 (omega arith))
