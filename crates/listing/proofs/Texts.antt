-- The listing's pieces in the form in which the writers meet them.
use Prim.Native.Nat.{ℕ, zero, suc, ◌+◌, ◌≤◌}
use mathlib.Core.Path.{◌≡◌, refl, sym, ap, ◌∙◌}
use mathlib.Core.List.{List, [], ◌∷◌, ◌++◌, append_assoc, append-nil}
use mathlib.Core.Bool.{Bool, true, false, cond}
use native.Mathlib.Nat.{add-zero}
use native.Mathlib.Numerals.{add-one}
use native.Mathlib.Omega.{arith}
use borrow.Author.Tests.{ne_eqb}
use lib.IntN.{ℤ, pos}
use lib.Dec.{ltb, eqb}
use lib.ListN.{length, get_or, take, drop}
use Rattle.units.specs.declared.share.Share.{Share}
use Rattle.units.specs.Units.{share, nums}
use Rattle.lists.specs.Lists.{parts, first_part}
use Rattle.lists.proofs.Tests.{by_cases}
use Rattle.writing.specs.Ascii.{ascii}
use Rattle.planning.specs.declared.Line.{Line}
use Rattle.planning.specs.Plan.{no_line}
use Rattle.writing.specs.Field.{field}
use Rattle.listing.specs.Listing.{share_text, shares_text, row_text, task_text, tasks_text}

-- the text of a positive share
pub share_some : (p s : ℕ) → (s ≡ 0 → ⊥) → field " " p ++ field ":" s ≡ share_text p s
share_some p s h = rw (ne_eqb s 0 h)

-- the shares of one core more
pub shares_more : (p : ℕ) (ss : List Share) (k : ℕ) →
    shares_text p (nums (take k ss)) ++ share_text (p + k) (get_or ss k (share 0)).0 ≡ shares_text p (nums (take (suc k) ss))
shares_more p [] zero = refl
shares_more p [] (suc k) = refl
shares_more p (s ∷ ss) zero = rw (add-zero p) (sym (append-nil (share_text p s.0)))
shares_more p (s ∷ ss) (suc k) =
    append_assoc (share_text p s.0) (shares_text (suc p) (nums (take k ss))) (share_text (p + suc k) (get_or ss k (share 0)).0)
    ∙ ap (λ (t : List ℕ). share_text p s.0 ++ t)
    (ap (λ (m : ℕ). shares_text (suc p) (nums (take k ss)) ++ share_text m (get_or ss k (share 0)).0) (omega arith) ∙ shares_more (suc p) ss k)

-- the same from core 1 on
pub cores_more : (ss : List Share) (k : ℕ) →
    shares_text 1 (nums (take k ss)) ++ share_text (k + 1) (get_or ss k (share 0)).0 ≡ shares_text 1 (nums (take (k + 1) ss))
cores_more ss k =
    ap (λ (m : ℕ). shares_text 1 (nums (take k ss)) ++ share_text m (get_or ss k (share 0)).0) (omega arith)
    ∙ shares_more 1 ss k
    ∙ ap (λ (m : ℕ). shares_text 1 (nums (take m ss))) (sym (add-one k))

-- before the first part there is no text
pub first_text_lem : (q : ℕ) (ss : List Share) → [] ≡ shares_text q (nums (take (first_part (nums ss)) ss))
first_text_lem q [] = refl
first_text_lem q (s ∷ ss) = by_cases (eqb s.0 0) (λ t. rw t (rw t (first_text_lem (suc q) ss))) (λ t. rw t)

-- and no other part
pub first_left : (row : List ℕ) → parts row ≡ parts (drop (first_part row) row)
first_left [] = refl
first_left (x ∷ row) =
    by_cases (eqb x 0)
    (λ t. rw t (first_left row))
    (λ t. ap (λ (b : Bool). parts (drop (cond b (suc (first_part row)) 0) (x ∷ row))) (sym t))

-- it is one of the cores, or past the last
pub first_in : (row : List ℕ) → first_part row ≤ length row
first_in [] = omega arith
first_in (x ∷ row) = by_cases (eqb x 0) (λ t. rw t (omega (arith, first_in row))) (λ t. rw t (omega arith))

-- with no part left there is no text left
none_text : (q : ℕ) (row : List ℕ) → parts row ≡ 0 → [] ≡ shares_text q row
none_text q [] e = refl
none_text q (x ∷ row) e =
    by_cases (eqb x 0) (λ t. rw t (none_text (suc q) row (rw t at e))) (λ t. absurd (omega (arith, rw t at e)))

-- from core q on
done_from : (q : ℕ) (ss : List Share) (k : ℕ) → parts (drop k (nums ss)) ≡ 0 → shares_text q (nums (take k ss)) ≡ shares_text q (nums ss)
done_from q [] zero e = refl
done_from q [] (suc k) e = refl
done_from q (s ∷ ss) zero e = none_text q (nums (s ∷ ss)) e
done_from q (s ∷ ss) (suc k) e = ap (λ (t : List ℕ). share_text q s.0 ++ t) (done_from (suc q) ss k e)

-- so the shares' text is whole once no part is left
pub shares_done : (ss : List Share) (k : ℕ) → parts (drop k (nums ss)) ≡ 0 → shares_text 1 (nums (take k ss)) ≡ shares_text 1 (nums ss)
shares_done = done_from 1

-- the row of a task that moves, by how many parts it has
pub row_moves : (row : List ℕ) {n : ℕ} → n ≡ parts row → true ≡ ltb 1 n → ascii " moves" ++ shares_text 1 row ≡ row_text row
unfolding row_text
row_moves row e t = rw (sym (t ∙ ap (ltb 1) e)) refl

-- the row of a task that does not
pub row_fixed : (row : List ℕ) {n : ℕ} → n ≡ parts row → false ≡ ltb 1 n → ascii " fixed" ++ shares_text 1 row ≡ row_text row
unfolding row_text
row_fixed row e t = rw (sym (t ∙ ap (ltb 1) e)) refl

-- the lines of one task more
pub tasks_more : (ls : List Line) (lates : List ℤ) (n : ℕ) →
    tasks_text ls lates n ++ task_text (n + 1) (get_or ls n no_line) (get_or lates n (pos 0)) ≡ tasks_text ls lates (n + 1)
unfolding tasks_text
tasks_more ls lates n = rw (add-one n) refl
