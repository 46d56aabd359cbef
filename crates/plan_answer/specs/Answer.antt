-- What the program writes for a text, document 01, "Listing and text".
use Rattle.std.specs.Prelude.{Err, ℕ, cond, List, eqb}
use Rattle.writing.specs.Refused.{refusal_text}
use Rattle.table_text.specs.Text.{Said, says, unreadable, text_of, reading_refusal}
use Rattle.planning.specs.Plan.{plan_of}
use Rattle.listing.specs.Listing.{listing_text}
use Rattle.listing.specs.Listed.{table_listed}

-- a table's answer in a buffer of so many bytes: planning's refusals, then 14, or the listing
unfoldable pub table_text : ℕ → ℕ → List ℕ → List ℕ
table_text room m xs =
    cond (eqb (table_listed m xs room).refusal.no 0)
    (listing_text (plan_of m xs).plan)
    (refusal_text (table_listed m xs room).refusal)

-- what a text says, answered in such a buffer
unfoldable pub said_text : ℕ → Said → List ℕ
said_text room (says m xs) = table_text room m xs
said_text room (unreadable line) = refusal_text (reading_refusal (Err line))

-- what is written into such a buffer: 16 comes first, then planning's refusals, and with room for any listing 14 is not met (proofs/Words)
unfoldable pub answer_text : ℕ → List ℕ → List ℕ
answer_text room s = said_text room (text_of s)
