-- What the program writes, told back: 16 with its line, planning's refusals, or the listing.
use Prim.Native.Nat.{ℕ, ◌≤◌, ◌<◌}
use mathlib.Core.Path.{◌≡◌, refl, sym, ap, ap₂, ◌∙◌}
use mathlib.Core.Logic.{◌↔◌}
use mathlib.Core.List.{List, head-eq_of_cons-eq}
use native.Mathlib.Omega.{arith}
use lib.Dec.{eqb}
use lib.Seq.{sets}
use borrow.Author.Tests.{eqb-true, eqb-false}
use Rattle.lists.proofs.Tests.{by_cases}
use Rattle.units.specs.Refusals.{refusal}
use Rattle.units.specs.Refusals.{Refusal}
use Rattle.writing.specs.Refused.{refusal_text}
use Rattle.admission.specs.Admission.{plan_refusal}
use Rattle.admission.specs.Given.{Given, Taken}
use Rattle.admission.proofs.Exactly.{exactly_taken}
use Rattle.admission.proofs.FirstThatApplies.{given, numbers}
use Rattle.planning.specs.declared.Plan.{Plan}
use Rattle.planning.specs.Plan.{plan_of}
use Rattle.listing.specs.Listing.{listing_text}
use Rattle.listing.specs.Listed.{listing_limit}
use Rattle.table_text.specs.Text.{Said, says, unreadable, text_of, table_said, answer_of, reading_refusal}
use Rattle.plan_answer.specs.Answer.{answer_text}
use Rattle.plan_answer.proofs.Words.{unread, refused, listed}
use Rattle.demands.proofs.Beneath.RefusalLines.{line_says}
use Rattle.demands.proofs.Beneath.SaysTable.{says_table_lem}

-- a listing is no refusal's line
not_a_line : (pl : Plan) (r : Refusal) → listing_text pl ≡ refusal_text r → ⊥
unfolding listing_text refusal_text
not_a_line pl r e = omega (arith, head-eq_of_cons-eq e)

-- a reading is refused by 16 exactly if the text can't be read
pub reading : (w : Said) (line : ℕ) → (reading_refusal (answer_of w) ≡ refusal 16 line) ↔ (w ≡ unreadable line)
unfolding answer_of
reading w line = (to w, ap (λ (x : Said). reading_refusal (answer_of x)))
  where
    to : (x : Said) → reading_refusal (answer_of x) ≡ refusal 16 line → x ≡ unreadable line
    to (says m xs) e = absurd (omega (arith, ap (λ (r : Refusal). r.no) e))
    to (unreadable k) e = ap (λ (r : Refusal). unreadable r.named) e

-- and then no number is stored
pub unread_kept : (w : Said) (line : ℕ) (table : List ℕ) → w ≡ unreadable line → sets table 0 (table_said w) ≡ table
unfolding table_said
unread_kept w line table e = rw e

module _ (room : ℕ) (enough : listing_limit ≤ room) (s : List ℕ) where
  -- the three cases
  data Case : Type 0 where
    as_16 : (line : ℕ) → text_of s ≡ unreadable line → answer_text room s ≡ refusal_text (refusal 16 line) → Case
    as_refused : (m : ℕ) (xs : List ℕ) → text_of s ≡ says m xs → 0 < (plan_refusal m xs).no → answer_text room s ≡ refusal_text (plan_refusal m xs) → Case
    as_listed : (m : ℕ) (xs : List ℕ) → text_of s ≡ says m xs → (plan_refusal m xs).no ≡ 0 → answer_text room s ≡ listing_text (plan_of m xs).plan → Case

  case_of : (x : Said) → text_of s ≡ x → Case
  case_of (unreadable line) e = as_16 line e (unread room s line e)
  case_of (says m xs) e =
      by_cases (eqb (plan_refusal m xs).no 0)
      (λ f. let z = eqb-true (plan_refusal m xs).no 0 f in as_listed m xs e z (listed room s m xs e enough z))
      (λ f. let n = eqb-false (plan_refusal m xs).no 0 f in as_refused m xs e (omega (arith, n)) (refused room s m xs e n))

  case : Case
  case = case_of (text_of s) refl

  -- 16 first
  pub first_16 : (line : ℕ) → (answer_text room s ≡ refusal_text (refusal 16 line)) ↔ (text_of s ≡ unreadable line)
  first_16 line = (to case, unread room s line)
    where
      to : Case → answer_text room s ≡ refusal_text (refusal 16 line) → text_of s ≡ unreadable line
      to (as_16 l t x) e = t ∙ ap (λ (r : Refusal). unreadable r.named) (line_says (refusal 16 l) (refusal 16 line) (sym x ∙ e))
      to (as_refused m xs t h x) e =
          absurd (omega (arith, numbers m xs, ap (λ (r : Refusal). r.no) (line_says (plan_refusal m xs) (refusal 16 line) (sym x ∙ e))))
      to (as_listed m xs t h x) e = absurd (not_a_line (plan_of m xs).plan (refusal 16 line) (sym x ∙ e))

  -- then planning's
  pub then_planning : (n i : ℕ) → 0 < n → n ≤ 6
      → (answer_text room s ≡ refusal_text (refusal n i)) ↔ ((m : ℕ) × (xs : List ℕ) × (text_of s ≡ says m xs) × Given m xs n i)
  then_planning n i some most = (to case, back)
    where
      to : Case → answer_text room s ≡ refusal_text (refusal n i) → (m : ℕ) × (xs : List ℕ) × (text_of s ≡ says m xs) × Given m xs n i
      to (as_16 l t x) e = absurd (omega (arith, most, ap (λ (r : Refusal). r.no) (line_says (refusal 16 l) (refusal n i) (sym x ∙ e))))
      to (as_refused m xs t h x) e = (m, xs, t, (given m xs n i).0 (line_says (plan_refusal m xs) (refusal n i) (sym x ∙ e)))
      to (as_listed m xs t h x) e = absurd (not_a_line (plan_of m xs).plan (refusal n i) (sym x ∙ e))

      back : (m : ℕ) × (xs : List ℕ) × (text_of s ≡ says m xs) × Given m xs n i → answer_text room s ≡ refusal_text (refusal n i)
      back (m, xs, t, g) =
          let e = (given m xs n i).1 g in
          refused room s m xs t (λ z. omega (arith, some, ap (λ (r : Refusal). r.no) e, z)) ∙ ap refusal_text e

  -- else the listing
  pub else_listed : (m : ℕ) (xs : List ℕ) → Taken m xs → (answer_text room s ≡ listing_text (plan_of m xs).plan) ↔ (text_of s ≡ says m xs)
  else_listed m xs g = (to case, λ t. listed room s m xs t enough ((exactly_taken m xs).1 g))
    where
      to : Case → answer_text room s ≡ listing_text (plan_of m xs).plan → text_of s ≡ says m xs
      to (as_16 l t x) e = absurd (not_a_line (plan_of m xs).plan (refusal 16 l) (sym e ∙ x))
      to (as_refused n ys t h x) e = absurd (not_a_line (plan_of m xs).plan (plan_refusal n ys) (sym e ∙ x))
      to (as_listed n ys t z x) e = let same = says_table_lem n m ys xs ((exactly_taken n ys).0 z) g (sym x ∙ e) in t ∙ ap₂ says same.0 same.1
