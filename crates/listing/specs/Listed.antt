-- The calls for a listing, of a record and of a table: what they answer, and what they leave in the lent buffer.
use Rattle.std.specs.Prelude.{ℕ, cond, List, ◌++◌, leb, eqb, length, drop, Result, Ok, Err}
use Rattle.planning.specs.declared.Plan.{Plan}
use Rattle.dispatch.specs.declared.Record.{Record}
use Rattle.dispatch.specs.Sound.{sound_of}
use Rattle.listing.specs.Listing.{listing_text}
use Rattle.units.specs.declared.refusal.Refusal.{Refusal as Refused}
use Rattle.units.specs.Refusals.{told, refusal, taken, buffer_no, unsound_no}
use Rattle.units.specs.Refusals.{Refusal}
use Rattle.admission.specs.Admission.{plan_refusal}
use Rattle.planning.specs.Plan.{plan_of}

-- bytes that hold the listing of any sound plan
abbrev pub listing_limit : ℕ
listing_limit = 15960

-- the refusal, or none and the listing's length
pub record Listed : Type 0 where
  pub refusal : Refusal
  pub length : ℕ

-- a refusal and no listing
abbrev pub unlisted : Refusal → Listed
unlisted r = record { refusal = r; length = 0 }

-- a listing of so many bytes
abbrev pub listed_whole : ℕ → Listed
listed_whole n = record { refusal = taken; length = n }

-- what the code's answer tells
abbrev pub listing_told : Result ℕ Refused → Listed
listing_told (Ok n) = listed_whole n
listing_told (Err r) = unlisted (told r)

-- a plan's listing in a buffer of so many bytes: refusal 14, or the listing's length
unfoldable pub plan_listed : Plan → ℕ → Listed
plan_listed pl room = cond (leb (length (listing_text pl)) room) (listed_whole (length (listing_text pl))) (unlisted (refusal buffer_no 0))

-- the buffer after it: the listing and then what it was, or all as it was
unfoldable pub plan_after : Plan → List ℕ → List ℕ
plan_after pl buf = cond (leb (length (listing_text pl)) (length buf)) (listing_text pl ++ drop (length (listing_text pl)) buf) buf

-- a record's listing: refusal 15 where it is not sound, else its plan's
unfoldable pub listed_of : Record → ℕ → Listed
listed_of r room = cond (sound_of r) (plan_listed r.plan room) (unlisted (refusal unsound_no 0))

-- the buffer after it: as it was where the record is not sound
unfoldable pub buffer_after : Record → List ℕ → List ℕ
buffer_after r buf = cond (sound_of r) (plan_after r.plan buf) buf

-- a table's listing: planning's refusals, then its plan's
unfoldable pub table_listed : ℕ → List ℕ → ℕ → Listed
table_listed m xs room = cond (eqb (plan_refusal m xs).no 0) (plan_listed (plan_of m xs).plan room) (unlisted (plan_refusal m xs))

-- the buffer after it: as it was where planning refuses
unfoldable pub table_after : ℕ → List ℕ → List ℕ → List ℕ
table_after m xs buf = cond (eqb (plan_refusal m xs).no 0) (plan_after (plan_of m xs).plan buf) buf
