-- A listing in a lent buffer, after an earlier test: that test's refusal, then 14, else the listing.
use Prim.Native.Nat.{ℕ, ◌≤◌, ◌<◌}
use mathlib.Core.Path.{◌≡◌, sym, ap, ◌∙◌}
use mathlib.Core.Logic.{◌↔◌}
use mathlib.Core.Bool.{Bool, true, false, cond}
use mathlib.Core.List.{List, ◌++◌}
use native.Mathlib.Omega.{arith}
use lib.Dec.{leb, eqb}
use lib.ListN.{length, drop}
use borrow.Author.Tests.{leb-true, leb-false, eqb-true, eq-eqb}
use Rattle.lists.specs.Lists.{bit}
use Rattle.lists.proofs.Tests.{by_cases}
use Rattle.units.specs.Refusals.{refusal}
use Rattle.units.specs.Refusals.{Refusal}
use Rattle.admission.specs.Admission.{plan_refusal}
use Rattle.admission.specs.Given.{Taken}
use Rattle.admission.proofs.Exactly.{exactly_taken}
use Rattle.planning.specs.declared.Plan.{Plan}
use Rattle.listing.specs.Listed.{Listed}
use Rattle.listing.specs.Listing.{listing_text}
use Rattle.listing.specs.Listed.{unlisted, listed_whole, plan_listed, plan_after}

-- none of 1 to 6 applies, as planning tests it
pub is_taken : (m : ℕ) (xs : List ℕ) → (eqb (plan_refusal m xs).no 0 ≡ true) ↔ Taken m xs
is_taken m xs = (
  λ e. (exactly_taken m xs).0 (eqb-true (plan_refusal m xs).no 0 e),
  λ t. eq-eqb (plan_refusal m xs).no 0 ((exactly_taken m xs).1 t),
)

-- the test passed or not, the refusal where it did not, the plan to be listed and the buffer
module _ (b : Bool) (a : Refusal) (pl : Plan) (buf : List ℕ) where
  -- the listing, what is answered, and the buffer after it
  abbrev text : List ℕ
  text = listing_text pl

  abbrev answer : Listed
  answer = cond b (plan_listed pl (length buf)) (unlisted a)

  abbrev after : List ℕ
  after = cond b (plan_after pl buf) buf

  -- the three cases
  pub data Case : Type 0 where
    earlier : b ≡ false → answer ≡ unlisted a → after ≡ buf → Case
    short : b ≡ true → length buf < length text → answer ≡ unlisted (refusal 14 0) → after ≡ buf → Case
    whole : b ≡ true → length text ≤ length buf → answer ≡ listed_whole (length text) → after ≡ text ++ drop (length text) buf → Case

  pub case : Case
  unfolding plan_listed plan_after
  case =
      by_cases b
      (λ e. by_cases (leb (length text) (length buf))
      (λ f. whole e (leb-true (length text) (length buf) f) (rw (e, f)) (rw (e, f)))
      (λ f. short e (leb-false (length text) (length buf) f) (rw (e, f)) (rw (e, f))))
      (λ e. earlier e (rw e) (rw e))

  -- not both
  both : {A : Type 0} → b ≡ false → b ≡ true → A
  both e f = absurd (omega (arith, ap bit e, ap bit f))

  -- a refusal's number, from a case's answer
  number : {l : Listed} {n i : ℕ} → answer ≡ l → answer.refusal ≡ refusal n i → l.refusal.no ≡ n
  number x e = sym (ap (λ (l : Listed). l.refusal.no) x) ∙ ap (λ (r : Refusal). r.no) e

  -- the earlier test's refusal
  pub first : (n i : ℕ) → 0 < n → (n ≡ 14 → ⊥) → (answer.refusal ≡ refusal n i) ↔ ((b ≡ false) × (a ≡ refusal n i))
  first n i some other = (to case, back case)
    where
      to : Case → answer.refusal ≡ refusal n i → (b ≡ false) × (a ≡ refusal n i)
      to (earlier f x y) e = (f, sym (ap (λ (l : Listed). l.refusal) x) ∙ e)
      to (short f h x y) e = absurd (other (sym (number x e)))
      to (whole f h x y) e = absurd (omega (arith, some, number x e))

      back : Case → (b ≡ false) × (a ≡ refusal n i) → answer.refusal ≡ refusal n i
      back (earlier f x y) h = ap (λ (l : Listed). l.refusal) x ∙ h.1
      back (short f k x y) h = both h.0 f
      back (whole f k x y) h = both h.0 f

  -- then 14, where the listing is longer than the buffer
  pub then_14 : (b ≡ false → a.no ≡ 14 → ⊥) → (answer.refusal ≡ refusal 14 0) ↔ ((b ≡ true) × (length buf < length text))
  then_14 other = (to case, back case)
    where
      to : Case → answer.refusal ≡ refusal 14 0 → (b ≡ true) × (length buf < length text)
      to (earlier f x y) e = absurd (other f (number x e))
      to (short f h x y) e = (f, h)
      to (whole f h x y) e = absurd (omega (arith, number x e))

      back : Case → (b ≡ true) × (length buf < length text) → answer.refusal ≡ refusal 14 0
      back (earlier f x y) h = both f h.0
      back (short f k x y) h = ap (λ (l : Listed). l.refusal) x
      back (whole f k x y) h = absurd (omega (arith, h.1, k))

  -- else none
  pub none : (b ≡ false → a.no ≡ 0 → ⊥) → (answer.refusal ≡ refusal 0 0) ↔ ((b ≡ true) × (length text ≤ length buf))
  none other = (to case, back case)
    where
      to : Case → answer.refusal ≡ refusal 0 0 → (b ≡ true) × (length text ≤ length buf)
      to (earlier f x y) e = absurd (other f (number x e))
      to (short f h x y) e = absurd (omega (arith, number x e))
      to (whole f h x y) e = (f, h)

      back : Case → (b ≡ true) × (length text ≤ length buf) → answer.refusal ≡ refusal 0 0
      back (earlier f x y) h = both f h.0
      back (short f k x y) h = absurd (omega (arith, h.1, k))
      back (whole f k x y) h = ap (λ (l : Listed). l.refusal) x

  -- a refusal answers length 0 and changes no byte
  pub refused : (answer.refusal.no ≡ 0 → ⊥) → (answer.length ≡ 0) × (after ≡ buf)
  refused n = go case
    where
      go : Case → (answer.length ≡ 0) × (after ≡ buf)
      go (earlier f x y) = (ap (λ (l : Listed). l.length) x, y)
      go (short f h x y) = (ap (λ (l : Listed). l.length) x, y)
      go (whole f h x y) = absurd (n (ap (λ (l : Listed). l.refusal.no) x))

  -- a listing's length is answered, and past the listing the bytes are as they were
  pub accepted : (b ≡ false → a.no ≡ 0 → ⊥) → answer.refusal.no ≡ 0 → (answer.length ≡ length text) × (after ≡ text ++ drop (length text) buf)
  accepted other e = go case
    where
      go : Case → (answer.length ≡ length text) × (after ≡ text ++ drop (length text) buf)
      go (earlier f x y) = absurd (other f (sym (ap (λ (l : Listed). l.refusal.no) x) ∙ e))
      go (short f h x y) = absurd (omega (arith, sym (ap (λ (l : Listed). l.refusal.no) x) ∙ e))
      go (whole f h x y) = (ap (λ (l : Listed). l.length) x, y)
