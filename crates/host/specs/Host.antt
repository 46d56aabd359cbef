-- The C host's calls, document 01, "Numbers and units": a table is bytes, eight for a task, cost then period, each least byte first.
use Rattle.std.specs.Prelude.{ℕ, ◌%◌, cond, List, [], eqb, ℤ, pos, neg_ℤ, length}
use Rattle.little_endian.specs.Number.{numbers_of}
use Rattle.admission.specs.Admission.{plan_refusal}
use Rattle.listing.specs.Listed.{Listed}
use Rattle.listing.specs.Listed.{table_listed, table_after}

-- the table handed in; one that ends inside a number counts as empty, which planning refuses by the same number, 2
unfoldable pub table_in : List ℕ → List ℕ
table_in bytes = cond (eqb (length bytes % 4) 0) (numbers_of bytes) []

-- the admission number: 0 or a refusal
unfoldable pub admit_of : ℕ → List ℕ → ℕ
admit_of m bytes = (plan_refusal m (table_in bytes)).no

-- a refusal number made negative
abbrev pub negative : ℕ → ℤ
negative n = neg_ℤ (pos n)

-- a listing's length in bytes, or the refusal number made negative
unfoldable pub answered : Listed → ℤ
answered l = cond (eqb l.refusal.no 0) (pos l.length) (negative l.refusal.no)

-- the listing, asked for with a buffer of so many bytes: planning's refusals, then 14
unfoldable pub host_listed : ℕ → List ℕ → ℕ → ℤ
host_listed m bytes room = answered (table_listed m (table_in bytes) room)

-- the buffer after it: on a refusal as it was
unfoldable pub host_after : ℕ → List ℕ → List ℕ → List ℕ
host_after m bytes buf = table_after m (table_in bytes) buf
