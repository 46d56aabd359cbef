-- Pass two over all cores at once: a full core gives nothing, so it makes no difference to look at it again.
use Prim.Native.Nat.{ℕ, zero, suc, ◌+◌, ◌-◌, min}
use mathlib.Core.Path.{◌≡◌, refl, ap}
use mathlib.Core.List.{List, [], ◌∷◌, ◌++◌, append_assoc}
use native.Mathlib.Omega.{arith}
use lib.Dec.{ltb}
use lib.ListN.{length, replicate-append-replicate}
use borrow.Author.Tests.{ltb-true, ltb-false}
use Rattle.lists.specs.Lists.{zeros}
use Rattle.lists.proofs.Tests.{by_cases}
use Rattle.assignment.specs.Passes.{give, behind, onward, pass_two}

-- of each core in turn the smaller of what the task still needs and what the core has left
abbrev pub cut : ℕ → List ℕ → List ℕ
cut n [] = []
cut n (r ∷ rs) = min n r ∷ cut (n - r) rs

-- and what each core has left then
abbrev pub rest : ℕ → List ℕ → List ℕ
rest n [] = []
rest n (r ∷ rs) = (r - n) ∷ rest (n - r) rs

-- the shares of tasks of these weights
abbrev pub pour : List ℕ → List ℕ → List (List ℕ)
pour [] room = []
pour (w ∷ ws) room = cut w room ∷ pour ws (rest w room)

-- a task that needs no more is given nothing
cut_none : (rs : List ℕ) → cut 0 rs ≡ zeros (length rs)
cut_none [] = refl
cut_none (r ∷ rs) =
    let a : min 0 r ≡ 0 = omega arith in
    let b : 0 - r ≡ 0 = omega arith in
    rw (a, b, cut_none rs)

-- and takes nothing away
rest_none : (rs : List ℕ) → rest 0 rs ≡ rs
rest_none [] = refl
rest_none (r ∷ rs) =
    let a : r - 0 ≡ r = omega arith in
    let b : 0 - r ≡ 0 = omega arith in
    rw (a, b, rest_none rs)

module _ (n : ℕ) (rs : List ℕ) where
  -- full cores give nothing
  cut_full : (p : ℕ) → cut n (zeros p ++ rs) ≡ zeros p ++ cut n rs
  cut_full zero = refl
  cut_full (suc p) =
      let a : min n 0 ≡ 0 = omega arith in
      let b : n - 0 ≡ n = omega arith in
      rw (a, b, cut_full p)

  -- and stay full
  rest_full : (p : ℕ) → rest n (zeros p ++ rs) ≡ zeros p ++ rest n rs
  rest_full zero = refl
  rest_full (suc p) =
      let a : 0 - n ≡ 0 = omega arith in
      let b : n - 0 ≡ n = omega arith in
      rw (a, b, rest_full p)

-- from the pointer on a task is given the same
give_cut : (n : ℕ) (rs : List ℕ) → give n rs ≡ cut n rs
give_cut n [] = refl
give_cut n (r ∷ rs) =
    by_cases (ltb r n)
    (λ e. rw (e, give_cut (n - r) rs))
    (λ e. let z : n - r ≡ 0 = omega (arith, ltb-false r n e) in rw (e, z, cut_none rs))

-- and leaves the same: the cores behind are full
rest_onward : (n : ℕ) (rs : List ℕ) → rest n rs ≡ zeros (behind n rs) ++ onward n rs
rest_onward n [] = refl
rest_onward n (r ∷ rs) =
    by_cases (ltb r n)
    (λ e. let z : r - n ≡ 0 = omega (arith, ltb-true r n e) in rw (e, z, rest_onward (n - r) rs))
    (λ e. let z : n - r ≡ 0 = omega (arith, ltb-false r n e) in rw (e, z, rest_none rs))

-- so pass two is the same
pub poured : (p : ℕ) (ws room : List ℕ) → pass_two p ws room ≡ pour ws (zeros p ++ room)
poured p [] room = refl
poured p (w ∷ ws) room =
    let b : ℕ = behind w room in
    rw (
      cut_full w room p,
      rest_full w room p,
      rest_onward w room,
      ← (append_assoc (zeros p) (zeros b) (onward w room)),
      replicate-append-replicate {A = ℕ} p b 0,
      ← (give_cut w room),
    ) (ap (λ (rs : List (List ℕ)). (zeros p ++ give w room) ∷ rs) (poured (p + b) ws (onward w room)))
