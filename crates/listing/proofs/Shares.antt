-- The shares of a row are told from its text.
use Prim.Native.Nat.{ℕ, suc, ◌<◌}
use mathlib.Core.Path.{◌≡◌, refl, sym, ◌∙◌}
use mathlib.Core.Bool.{true, false}
use mathlib.Core.List.{List, [], ◌∷◌, ◌++◌, append_assoc, append_cancel_left, tail-eq_of_cons-eq}
use native.Mathlib.Omega.{arith}
use lib.Dec.{eqb}
use lib.ListN.{length}
use borrow.Author.Tests.{eqb-true}
use Rattle.lists.proofs.Tests.{by_cases}
use Rattle.writing.specs.Ascii.{ascii}
use Rattle.writing.specs.Field.{field}
use Rattle.writing.proofs.Plain.{decimal_plain}
use Rattle.listing.specs.Listing.{share_text, shares_text}
use Rattle.listing.proofs.Digits.{Stops, plain_starts, field_cut}

-- the shares of a row from core p on, and the bound after them
abbrev pub up_to_late : ℕ → List ℕ → List ℕ → List ℕ
up_to_late p xs t = shares_text p xs ++ (ascii " late " ++ t)

-- a share that is 0 has no text
share_none : (p x : ℕ) (xs t : List ℕ) → eqb x 0 ≡ true → up_to_late p (x ∷ xs) t ≡ up_to_late (suc p) xs t
share_none p x xs t e = rw e

-- a positive one has its core's number and its own
share_some : (p x : ℕ) (xs t : List ℕ) → eqb x 0 ≡ false → up_to_late p (x ∷ xs) t ≡ field " " p ++ (field ":" x ++ up_to_late (suc p) xs t)
share_some p x xs t e =
    append_assoc (share_text p x) (shares_text (suc p) xs) (ascii " late " ++ t)
    ∙ rw e (append_assoc (field " " p) (field ":" x) (up_to_late (suc p) xs t))

-- no digit comes first
shares_stop : (p : ℕ) (xs t : List ℕ) → Stops (up_to_late p xs t)
shares_stop p [] t = refl
shares_stop p (x ∷ xs) t =
    by_cases (eqb x 0)
    (λ e. rw (share_none p x xs t e) (shares_stop (suc p) xs t))
    (λ e. rw (share_some p x xs t e) refl)

-- the shares of later cores do not start with an earlier core's number
shares_later : (p q : ℕ) (xs t r : List ℕ) → p < q → Stops r → up_to_late q xs t ≡ field " " p ++ r → ⊥
shares_later p q [] t r h u e = plain_starts 108 r (ascii "ate " ++ t) refl (decimal_plain p) (sym (tail-eq_of_cons-eq e))
shares_later p q (x ∷ xs) t r h u e =
    by_cases (eqb x 0)
    (λ m. shares_later p (suc q) xs t r (omega arith) u (sym (share_none q x xs t m) ∙ e))
    (λ m. omega (arith, (field_cut " " q p (field ":" x ++ up_to_late (suc q) xs t) r refl u (sym (share_some q x xs t m) ∙ e)).0))

module _ (p x y : ℕ) (xs ys t u : List ℕ) (e : up_to_late p (x ∷ xs) t ≡ up_to_late p (y ∷ ys) u) where
  -- two shares that are 0
  both_none : eqb x 0 ≡ true → eqb y 0 ≡ true → (x ≡ y) × (up_to_late (suc p) xs t ≡ up_to_late (suc p) ys u)
  both_none m n = (eqb-true x 0 m ∙ sym (eqb-true y 0 n), sym (share_none p x xs t m) ∙ e ∙ share_none p y ys u n)

  -- two positive ones
  both_some : eqb x 0 ≡ false → eqb y 0 ≡ false → (x ≡ y) × (up_to_late (suc p) xs t ≡ up_to_late (suc p) ys u)
  both_some m n =
      let r = up_to_late (suc p) xs t in
      let s = up_to_late (suc p) ys u in
      field_cut ":" x y r s (shares_stop (suc p) xs t) (shares_stop (suc p) ys u)
      (field_cut " " p p (field ":" x ++ r) (field ":" y ++ s) refl refl (sym (share_some p x xs t m) ∙ e ∙ share_some p y ys u n)).1

  -- never one of each
  one_some : eqb x 0 ≡ true → eqb y 0 ≡ false → ⊥
  one_some m n =
      shares_later p (suc p) xs t (field ":" y ++ up_to_late (suc p) ys u) (omega arith) refl
      (sym (share_none p x xs t m) ∙ e ∙ share_some p y ys u n)

-- a row's first share is told from its text, and so is the text of the others
share_cut : (p x y : ℕ) (xs ys t u : List ℕ) → up_to_late p (x ∷ xs) t ≡ up_to_late p (y ∷ ys) u
    → (x ≡ y) × (up_to_late (suc p) xs t ≡ up_to_late (suc p) ys u)
share_cut p x y xs ys t u e =
    by_cases (eqb x 0)
    (λ m. by_cases (eqb y 0) (both_none p x y xs ys t u e m) (λ n. absurd (one_some p x y xs ys t u e m n)))
    (λ m. by_cases (eqb y 0) (λ n. absurd (one_some p y x ys xs u t (sym e) n m)) (both_some p x y xs ys t u e m))

-- a row of known length is told from its text, and so is what follows
pub shares_cut : (p : ℕ) (xs ys t u : List ℕ) → length xs ≡ length ys → up_to_late p xs t ≡ up_to_late p ys u → (xs ≡ ys) × (t ≡ u)
shares_cut p [] [] t u h e = (refl, append_cancel_left (ascii " late ") t u e)
shares_cut p [] (y ∷ ys) t u h e = absurd (omega arith)
shares_cut p (x ∷ xs) [] t u h e = absurd (omega arith)
shares_cut p (x ∷ xs) (y ∷ ys) t u h e =
    let here = share_cut p x y xs ys t u e in
    let rest = shares_cut (suc p) xs ys t u (omega arith) here.1 in
    (λ i. here.0 i ∷ rest.0 i, rest.1)
