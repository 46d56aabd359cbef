-- With room for any listing, what is written is what document 01 says: 16, then planning's refusals, or the listing.
use Prim.Native.Nat.{ℕ, ◌≤◌}
use mathlib.Core.Path.{◌≡◌, sym, ◌∙◌}
use mathlib.Core.List.{List}
use borrow.Author.Tests.{ne_eqb}
use Rattle.units.specs.Refusals.{refusal}
use Rattle.writing.specs.Refused.{refusal_text}
use Rattle.admission.specs.Admission.{plan_refusal}
use Rattle.planning.specs.Plan.{plan_of}
use Rattle.listing.specs.Listing.{listing_text}
use Rattle.listing.specs.Listed.{listing_limit, table_listed}
use Rattle.listing.proofs.TableFits.{table_whole}
use Rattle.table_text.specs.Text.{says, unreadable, text_of}
use Rattle.plan_answer.specs.Answer.{table_text, answer_text}
use Rattle.plan_answer.proofs.Texts.{text_unreadable, text_read}

module _ (room : ℕ) (s : List ℕ) where
  -- a text that can't be read
  pub unread : (line : ℕ) → text_of s ≡ unreadable line → answer_text room s ≡ refusal_text (refusal 16 line)
  unread line e = sym (text_unreadable room s e)

  module _ (m : ℕ) (xs : List ℕ) (e : text_of s ≡ says m xs) where
    -- a table that planning refuses
    pub refused : ((plan_refusal m xs).no ≡ 0 → ⊥) → answer_text room s ≡ refusal_text (plan_refusal m xs)
    unfolding table_text table_listed
    refused n = let z = ne_eqb (plan_refusal m xs).no 0 n in sym (text_read room s e) ∙ rw (z, z)

    -- one that it takes
    pub listed : listing_limit ≤ room → (plan_refusal m xs).no ≡ 0 → answer_text room s ≡ listing_text (plan_of m xs).plan
    unfolding table_text
    listed enough t = sym (text_read room s e) ∙ rw (table_whole m xs t room enough)
