-- What the host's call for a listing answers and leaves in the buffer: planning's refusal number made negative, then -14, else the length.
use Prim.Native.Nat.{ℕ, zero, suc, ◌≤◌, ◌<◌}
use mathlib.Core.Path.{◌≡◌, refl, sym, ap, ◌∙◌, subst}
use mathlib.Core.Logic.{◌↔◌}
use mathlib.Core.List.{List, ◌++◌}
use native.Mathlib.Omega.{arith}
use lib.Dec.{eqb}
use lib.IntN.{ℤ, pos, negsuc, nat_abs}
use lib.ListN.{length, drop}
use borrow.Author.Tests.{eqb-true, eqb-false}
use Rattle.admission.specs.Admission.{plan_refusal}
use Rattle.admission.specs.Given.{Given}
use Rattle.admission.proofs.FirstThatApplies.{says, numbers}
use Rattle.admission.proofs.Gives.{gives_no}
use Rattle.planning.specs.Plan.{plan_of}
use Rattle.listing.specs.Listing.{listing_text}
use Rattle.listing.specs.Listed.{table_listed, table_after}
use Rattle.host.specs.Host.{table_in, admit_of, negative, answered, host_listed, host_after}
use Rattle.demands.proofs.Beneath.Lists.{Case as ListCase, case as list_case}
use Rattle.demands.proofs.Beneath.Lists.Case.{earlier as list_earlier, short as list_short, whole as list_whole}

-- the number that planning gives
pub admitted : (m : ℕ) (xs : List ℕ) (n : ℕ) → ((plan_refusal m xs).no ≡ n) ↔ ((i : ℕ) × Given m xs n i)
admitted m xs n = (λ e. ((plan_refusal m xs).named, subst (λ (k : ℕ). Given m xs k (plan_refusal m xs).named) e (says m xs)), λ g. gives_no m xs g.1)

-- a number made negative says it
negative_back : (n : ℕ) → nat_abs (negative n) ≡ n
negative_back zero = refl
negative_back (suc n) = refl

negative_same : (n k : ℕ) → negative n ≡ negative k → n ≡ k
negative_same n k e = sym (negative_back n) ∙ ap nat_abs e ∙ negative_back k

-- 1 below 0
abbrev sign : ℤ → ℕ
sign (pos n) = 0
sign (negsuc n) = 1

-- and it is no length
negative_not : (n k : ℕ) → 0 < n → negative n ≡ pos k → ⊥
negative_not zero k h e = omega arith
negative_not (suc n) k h e = omega (arith, ap sign e)

module _ (m : ℕ) (bytes buf : List ℕ) where
  -- the listing, what is answered, and the buffer after it
  abbrev text : List ℕ
  text = listing_text (plan_of m (table_in bytes)).plan

  abbrev answer : ℤ
  answer = host_listed m bytes (length buf)

  abbrev after : List ℕ
  after = host_after m bytes buf

  -- planning's test passed or not
  abbrev OfList : Type 0
  OfList = ListCase (eqb (plan_refusal m (table_in bytes)).no 0) (plan_refusal m (table_in bytes)) (plan_of m (table_in bytes)).plan buf

  -- the three cases
  data Case : Type 0 where
    earlier : 0 < admit_of m bytes → answer ≡ negative (admit_of m bytes) → after ≡ buf → Case
    short : admit_of m bytes ≡ 0 → length buf < length text → answer ≡ negative 14 → after ≡ buf → Case
    whole : admit_of m bytes ≡ 0 → length text ≤ length buf → answer ≡ pos (length text) → after ≡ text ++ drop (length text) buf → Case

  of_list : OfList → Case
  unfolding admit_of host_listed host_after answered table_listed table_after
  of_list (list_earlier f x y) =
      let n = eqb-false (plan_refusal m (table_in bytes)).no 0 f in
      earlier (omega (arith, n)) (ap answered x ∙ rw f) y
  of_list (list_short f h x y) = short (eqb-true (plan_refusal m (table_in bytes)).no 0 f) h (ap answered x) y
  of_list (list_whole f h x y) = whole (eqb-true (plan_refusal m (table_in bytes)).no 0 f) h (ap answered x) y

  case : Case
  case = of_list (list_case (eqb (plan_refusal m (table_in bytes)).no 0) (plan_refusal m (table_in bytes)) (plan_of m (table_in bytes)).plan buf)

  -- planning's numbers end with 6
  few : admit_of m bytes ≤ 6
  unfolding admit_of
  few = numbers m (table_in bytes)

  -- planning's first
  pub first : (n : ℕ) → 0 < n → n ≤ 6 → (answer ≡ negative n) ↔ (admit_of m bytes ≡ n)
  first n some most = (to case, back case)
    where
      to : Case → answer ≡ negative n → admit_of m bytes ≡ n
      to (earlier h x y) e = negative_same (admit_of m bytes) n (sym x ∙ e)
      to (short z h x y) e = absurd (omega (arith, most, negative_same 14 n (sym x ∙ e)))
      to (whole z h x y) e = absurd (negative_not n (length text) some (sym e ∙ x))

      back : Case → admit_of m bytes ≡ n → answer ≡ negative n
      back (earlier h x y) e = x ∙ ap negative e
      back (short z h x y) e = absurd (omega (arith, some, z, e))
      back (whole z h x y) e = absurd (omega (arith, some, z, e))

  -- then 14
  pub then_14 : (answer ≡ negative 14) ↔ ((admit_of m bytes ≡ 0) × (length buf < length text))
  then_14 = (to case, back case)
    where
      to : Case → answer ≡ negative 14 → (admit_of m bytes ≡ 0) × (length buf < length text)
      to (earlier h x y) e = absurd (omega (arith, few, negative_same (admit_of m bytes) 14 (sym x ∙ e)))
      to (short z h x y) e = (z, h)
      to (whole z h x y) e = absurd (negative_not 14 (length text) (omega arith) (sym e ∙ x))

      back : Case → (admit_of m bytes ≡ 0) × (length buf < length text) → answer ≡ negative 14
      back (earlier h x y) e = absurd (omega (arith, h, e.0))
      back (short z h x y) e = x
      back (whole z h x y) e = absurd (omega (arith, h, e.1))

  -- else the length
  pub the_length : (k : ℕ) → (answer ≡ pos k) ↔ ((admit_of m bytes ≡ 0) × (length text ≤ length buf) × (length text ≡ k))
  the_length k = (to case, back case)
    where
      to : Case → answer ≡ pos k → (admit_of m bytes ≡ 0) × (length text ≤ length buf) × (length text ≡ k)
      to (earlier h x y) e = absurd (negative_not (admit_of m bytes) k h (sym x ∙ e))
      to (short z h x y) e = absurd (negative_not 14 k (omega arith) (sym x ∙ e))
      to (whole z h x y) e = (z, h, ap nat_abs (sym x ∙ e))

      back : Case → (admit_of m bytes ≡ 0) × (length text ≤ length buf) × (length text ≡ k) → answer ≡ pos k
      back (earlier h x y) e = absurd (omega (arith, h, e.0))
      back (short z h x y) e = absurd (omega (arith, h, e.1))
      back (whole z h x y) e = x ∙ ap pos e.2

  -- no refusal changes a byte
  pub refused : (n : ℕ) → 0 < n → answer ≡ negative n → after ≡ buf
  refused n some e = go case
    where
      go : Case → after ≡ buf
      go (earlier h x y) = y
      go (short z h x y) = y
      go (whole z h x y) = absurd (negative_not n (length text) some (sym e ∙ x))

  -- past the listing the bytes are as they were
  pub accepted : (k : ℕ) → answer ≡ pos k → after ≡ text ++ drop (length text) buf
  accepted k e = go case
    where
      go : Case → after ≡ text ++ drop (length text) buf
      go (earlier h x y) = absurd (negative_not (admit_of m bytes) k h (sym x ∙ e))
      go (short z h x y) = absurd (negative_not 14 k (omega arith) (sym x ∙ e))
      go (whole z h x y) = y
