-- What planning and the listing leave in what the host lends: of release, finish and look `dispatch` says it.
use Rattle.std.specs.Prelude.{ℕ, List, ℤ, pos, length}
use Rattle.units.specs.Refusals.{or_kept}
use Rattle.dispatch.specs.declared.Record.{Record}
use Rattle.dispatch.specs.Record.{fresh_of}
use Rattle.listing.specs.Listed.{listed_of}
use Rattle.host.specs.Host.{table_in}

-- what planning leaves in the record that is lent
pub record LentStart : Type 0 where
  pub refusal : ℕ
  pub next : Record

-- what a listing leaves in the length that is lent
pub record LentList : Type 0 where
  pub refusal : ℕ
  pub len : ℤ

-- planning of a byte table into a lent record: the fresh record, or the refusal and the record as it was
unfoldable pub start_or : Record → ℕ → List ℕ → LentStart
start_or r m bytes = let a = fresh_of m (table_in bytes) in record { refusal = a.refusal.no; next = or_kept a.refusal.no a.next r }

-- the listing of a lent record in a lent buffer: its length, or the refusal and the lent length as it was
unfoldable pub list_or : Record → List ℕ → ℤ → LentList
list_or r buf len = let a = listed_of r (length buf) in record { refusal = a.refusal.no; len = or_kept a.refusal.no (pos a.length) len }
