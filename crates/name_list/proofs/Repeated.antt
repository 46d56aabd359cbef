-- When two names are the same, and when a list has the same name twice.
use Prim.Native.Nat.{ℕ, zero, suc, ◌<◌}
use mathlib.Core.Path.{◌≡◌, refl, sym, ap, ap₂, ◌∙◌}
use mathlib.Core.Logic.{◌↔◌, ⊎_elim}
use mathlib.Core.Bool.{true}
use mathlib.Core.List.{List, [], ◌∷◌}
use native.Mathlib.Omega.{arith}
use borrow.Author.Tests.{eq-eqb, eqb-true}
use lib.Dec.{eqb}
use lib.ListN.{length, get_or}
use Rattle.lists.proofs.Tests.{and_left, and_right, and_true, or_left, or_right, or_cases}
use Rattle.name_list.specs.Names.{same, among, twice}

-- what the test finds the same is equal
same_letters : (n m : List ℕ) → same n m ≡ true → n ≡ m
same_letters [] [] e = refl
same_letters [] (b ∷ m) e = absurd (let z : ◌≡◌ {A = ℕ} 0 1 = cc in omega (arith, z))
same_letters (a ∷ n) [] e = absurd (let z : ◌≡◌ {A = ℕ} 0 1 = cc in omega (arith, z))
same_letters (a ∷ n) (b ∷ m) e = ap₂ (λ (x : ℕ) (l : List ℕ). x ∷ l) (eqb-true a b (and_left _ _ e)) (same_letters n m (and_right (eqb a b) _ e))

-- a name is the same as itself
same_itself : (n : List ℕ) → same n n ≡ true
same_itself [] = refl
same_itself (a ∷ n) = and_true _ _ (eq-eqb a a refl) (same_itself n)

-- two names are the same exactly if they are equal
pub same_exactly : (n m : List ℕ) → (same n m ≡ true) ↔ (n ≡ m)
same_exactly n m = (same_letters n m, λ e. ap (same n) (sym e) ∙ same_itself n)

-- a name stands among others
abbrev Among : List ℕ → List (List ℕ) → Type 0
Among n ns = (j : ℕ) × (j < length ns) × (n ≡ get_or ns j [])

-- what the test finds
among_is : (n : List ℕ) (ns : List (List ℕ)) → among n ns ≡ true → Among n ns
among_is n [] e = absurd (let z : ◌≡◌ {A = ℕ} 0 1 = cc in omega (arith, z))
among_is n (m ∷ ms) e =
    ⊎_elim
    (λ p. (0, omega arith, same_letters n m p))
    (λ p. let r = among_is n ms p in (suc r.0, omega (arith, r.1), r.2))
    (or_cases (same n m) _ e)

-- and what it has to find
is_among : (n : List ℕ) (ns : List (List ℕ)) (j : ℕ) → j < length ns → n ≡ get_or ns j [] → among n ns ≡ true
is_among n [] j h e = absurd (omega arith)
is_among n (m ∷ ms) zero h e = or_left (same n m) _ ((same_exactly n m).1 e)
is_among n (m ∷ ms) (suc j) h e = or_right (same n m) _ (is_among n ms j (omega arith) e)

-- a name stands at two places of a list
abbrev pub Repeated : List (List ℕ) → Type 0
Repeated ns = (i : ℕ) × (j : ℕ) × (i < j) × (j < length ns) × (get_or ns i [] ≡ get_or ns j [])

-- what the test finds
twice_is : (ns : List (List ℕ)) → twice ns ≡ true → Repeated ns
twice_is [] e = absurd (let z : ◌≡◌ {A = ℕ} 0 1 = cc in omega (arith, z))
twice_is (n ∷ ns) e =
    ⊎_elim
    (λ p. let r = among_is n ns p in (0, suc r.0, omega arith, omega (arith, r.1), r.2))
    (λ p. let r = twice_is ns p in (suc r.0, suc r.1, omega (arith, r.2), omega (arith, r.3), r.4))
    (or_cases (among n ns) _ e)

-- and what it has to find
is_twice : (ns : List (List ℕ)) (i j : ℕ) → i < j → j < length ns → get_or ns i [] ≡ get_or ns j [] → twice ns ≡ true
is_twice [] i j h k e = absurd (omega arith)
is_twice (n ∷ ns) i zero h k e = absurd (omega arith)
is_twice (n ∷ ns) zero (suc j) h k e = or_left (among n ns) _ (is_among n ns j (omega arith) e)
is_twice (n ∷ ns) (suc i) (suc j) h k e = or_right (among n ns) _ (is_twice ns i j (omega arith) (omega arith) e)

-- a list has the same name twice exactly if one stands at two places
pub twice_exactly : (ns : List (List ℕ)) → (twice ns ≡ true) ↔ Repeated ns
twice_exactly ns = (twice_is ns, λ r. is_twice ns r.0 r.1 r.2 r.3 r.4)
