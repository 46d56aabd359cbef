-- The table's shape: a row for each task, and in it a number for each core.
use Prim.Native.Nat.{ℕ, zero, suc, ◌-◌, ◌<◌}
use mathlib.Core.Path.{◌≡◌, refl, ap, ◌∙◌}
use mathlib.Core.List.{List, [], ◌∷◌}
use native.Mathlib.Omega.{arith}
use lib.ListN.{length, get_or, set, length-set, length-replicate}
use Rattle.lists.specs.Lists.{zeros, at_most}
use Rattle.ordering.specs.Order.{order, in_order}
use Rattle.assignment.specs.Passes.{passes, scatter, empty_rows, shares_of}
use Rattle.assignment.proofs.Poured.{cut, rest, pour}
use Rattle.assignment.proofs.Passes.{passes_ind}

pub blank_length : (n m : ℕ) → length (empty_rows n m) ≡ n
unfolding empty_rows
blank_length n m = length-replicate n (zeros m)

pour_length : (ws room : List ℕ) → length (pour ws room) ≡ length ws
pour_length [] room = refl
pour_length (w ∷ ws) room = ap suc (pour_length ws (rest w room))

-- a row for each task
pub passes_length : (ws room : List ℕ) → length (passes ws room) ≡ length ws
passes_length =
    passes_ind (λ ws room rs. length rs ≡ length ws)
    (λ room. refl)
    (λ w ws room fit ih. ap suc ih)
    (λ w ws room misfit. pour_length (w ∷ ws) room)

-- each row has m numbers
abbrev pub Wide : ℕ → List (List ℕ) → Type 0
Wide m [] = Unit {0}
Wide m (r ∷ rs) = (length r ≡ m) × Wide m rs

cut_length : (n : ℕ) (rs : List ℕ) → length (cut n rs) ≡ length rs
cut_length n [] = refl
cut_length n (r ∷ rs) = ap suc (cut_length (n - r) rs)

rest_length : (n : ℕ) (rs : List ℕ) → length (rest n rs) ≡ length rs
rest_length n [] = refl
rest_length n (r ∷ rs) = ap suc (rest_length (n - r) rs)

pour_wide : (m : ℕ) (ws room : List ℕ) → length room ≡ m → Wide m (pour ws room)
pour_wide m [] room e = tt
pour_wide m (w ∷ ws) room e = (cut_length w room ∙ e, pour_wide m ws (rest w room) (rest_length w room ∙ e))

-- a number in it for each core
pub passes_wide : (m : ℕ) (ws room : List ℕ) → length room ≡ m → Wide m (passes ws room)
passes_wide m =
    passes_ind (λ ws room rs. length room ≡ m → Wide m rs)
    (λ room e. tt)
    (λ w ws room fit ih e.
    let q : ℕ = at_most room in (
      length-set (zeros (length room)) q w ∙ length-replicate (length room) 0 ∙ e,
      ih (length-set room q (get_or room q 0 - w) ∙ e),
    ))
    (λ w ws room misfit e. pour_wide m (w ∷ ws) room e)

scatter_length : (ts : List ℕ) (rs tab : List (List ℕ)) → length (scatter ts rs tab) ≡ length tab
scatter_length [] rs tab = refl
scatter_length (t ∷ ts) [] tab = refl
scatter_length (t ∷ ts) (r ∷ rs) tab = scatter_length ts rs (set tab t r) ∙ length-set tab t r

module _ (m : ℕ) where
  set_wide : (tab : List (List ℕ)) (t : ℕ) (r : List ℕ) → length r ≡ m → Wide m tab → Wide m (set tab t r)
  set_wide [] t r e w = tt
  set_wide (x ∷ tab) zero r e w = (e, w.1)
  set_wide (x ∷ tab) (suc t) r e w = (w.0, set_wide tab t r e w.1)

  scatter_wide : (ts : List ℕ) (rs tab : List (List ℕ)) → Wide m rs → Wide m tab → Wide m (scatter ts rs tab)
  scatter_wide [] rs tab v w = w
  scatter_wide (t ∷ ts) [] tab v w = w
  scatter_wide (t ∷ ts) (r ∷ rs) tab v w = scatter_wide ts rs (set tab t r) v.1 (set_wide tab t r v.0 w)

  blank_wide : (n : ℕ) → Wide m (empty_rows n m)
  unfolding empty_rows
  blank_wide zero = tt
  blank_wide (suc n) = (length-replicate m 0, blank_wide n)

  wide_at : (tab : List (List ℕ)) (i : ℕ) → i < length tab → Wide m tab → length (get_or tab i []) ≡ m
  wide_at [] i h w = absurd (omega arith)
  wide_at (r ∷ tab) zero h w = w.0
  wide_at (r ∷ tab) (suc i) h w = wide_at tab i (omega arith) w.1

module _ (ws room : List ℕ) where
  -- a row for each task
  pub shares_length : length (shares_of ws room) ≡ length ws
  unfolding shares_of
  shares_length =
      scatter_length (order ws) (passes (in_order ws) room) (empty_rows (length ws) (length room)) ∙ blank_length (length ws) (length room)

  -- and in it a number for each core
  pub shares_wide : (i : ℕ) → i < length ws → length (get_or (shares_of ws room) i []) ≡ length room
  unfolding shares_of
  shares_wide i h =
      let tab : List (List ℕ) = empty_rows (length ws) (length room) in
      wide_at (length room) (shares_of ws room) i (omega (arith, shares_length))
      (scatter_wide (length room) (order ws) (passes (in_order ws) room) tab (passes_wide (length room) (in_order ws) room refl)
      (blank_wide (length room) (length ws)))
