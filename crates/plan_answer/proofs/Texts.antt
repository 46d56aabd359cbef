-- The equations of what the program writes, as the code meets them.
use Prim.Native.Nat.{ℕ, ◌≤◌}
use mathlib.Core.Path.{◌≡◌, refl, ap, ◌∙◌, subst}
use mathlib.Core.List.{List}
use native.Mathlib.Omega.{arith}
use lib.Dec.{leb, eqb}
use lib.ListN.{length}
use borrow.Author.Tests.{ne_eqb, eqb-false, leb-true}
use Rattle.lists.proofs.Tests.{by_cases}
use Rattle.units.specs.Refusals.{refusal, text_no}
use Rattle.writing.specs.Wrote.{Wrote}
use Rattle.writing.specs.Refused.{refusal_text}
use Rattle.writing.proofs.Wrote.{fitted, recast}
use Rattle.admission.specs.Admission.{plan_refusal}
use Rattle.planning.specs.Plan.{plan_of}
use Rattle.listing.specs.Listed.{Listed}
use Rattle.listing.specs.Listing.{listing_text}
use Rattle.listing.proofs.TableFits.{table_length}
use Rattle.listing.specs.Listed.{listing_limit, plan_listed, plan_after, table_listed, table_after}
use Rattle.table_text.specs.Text.{says, unreadable, text_of}
use Rattle.plan_answer.specs.Answer.{table_text, said_text, answer_text}

module _ (m : ℕ) (xs a : List ℕ) where
  -- a refused table has changed no byte
  pub refused_kept : ((table_listed m xs (length a)).refusal.no ≡ 0 → ⊥) → table_after m xs a ≡ a
  unfolding table_listed table_after plan_listed plan_after
  refused_kept n =
      by_cases (eqb (plan_refusal m xs).no 0)
      (λ e. by_cases (leb (length (listing_text (plan_of m xs).plan)) (length a))
      (λ h. absurd (rw (e, h) at n refl))
      (λ h. rw (e, h)))
      (λ e. rw e)

  -- and its refusal is the answer
  pub refused : ((table_listed m xs (length a)).refusal.no ≡ 0 → ⊥) → refusal_text (table_listed m xs (length a)).refusal ≡ table_text (length a) m xs
  unfolding table_text
  refused n = rw (ne_eqb (table_listed m xs (length a)).refusal.no 0 n)

  -- a taken one is listed
  pub taken : (table_listed m xs (length a)).refusal.no ≡ 0
      → Wrote a 0 (table_text (length a) m xs) (table_after m xs a) (table_listed m xs (length a)).length
  unfolding table_text table_listed table_after plan_listed plan_after
  taken t =
      by_cases (eqb (plan_refusal m xs).no 0)
      (λ e. by_cases (leb (length (listing_text (plan_of m xs).plan)) (length a))
      (λ h. rw (e, h) (fitted (leb-true (length (listing_text (plan_of m xs).plan)) (length a) h)))
      (λ h. absurd (omega (arith, rw (e, h) at t))))
      (λ e. absurd (eqb-false (plan_refusal m xs).no 0 e (rw e at t)))

-- the same, by what the listing's call answered and left in the buffer
module _ (m : ℕ) (xs a : List ℕ) {l : Listed} {b : List ℕ} (e : l ≡ table_listed m xs (length a)) (f : b ≡ table_after m xs a) where
  -- the refusal's line is written over the buffer as it was
  pub refused_wrote : {d : List ℕ} {k : ℕ} → (l.refusal.no ≡ 0 → ⊥) → Wrote b 0 (refusal_text l.refusal) d k → Wrote a 0 (table_text (length a) m xs) d k
  refused_wrote {d} {k} n w =
      let z : (table_listed m xs (length a)).refusal.no ≡ 0 → ⊥ = subst (λ (x : Listed). x.refusal.no ≡ 0 → ⊥) e n in
      recast (ap (λ (x : Listed). refusal_text x.refusal) e ∙ refused m xs a z)
      (subst (λ (c : List ℕ). Wrote c 0 (refusal_text l.refusal) d k) (f ∙ refused_kept m xs a z) w)

  -- the listing is there
  pub taken_wrote : l.refusal.no ≡ 0 → Wrote a 0 (table_text (length a) m xs) b l.length
  taken_wrote t = rw (e, f) (taken m xs a (rw e at t))

  -- and is short
  pub taken_short : l.length ≤ listing_limit
  taken_short = rw e (table_length m xs (length a))

module _ (room : ℕ) (s : List ℕ) where
  -- an unreadable text
  pub text_unreadable : {line : ℕ} → text_of s ≡ unreadable line → refusal_text (refusal text_no line) ≡ answer_text room s
  unfolding answer_text said_text
  text_unreadable e = rw e refl

  -- a readable one
  pub text_read : {m : ℕ} {xs : List ℕ} → text_of s ≡ says m xs → table_text room m xs ≡ answer_text room s
  unfolding answer_text said_text
  text_read e = rw e refl
