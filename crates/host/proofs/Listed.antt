-- A listing's length laid over the one that was lent: of a listing that is written, and of one that is refused.
use Prim.Native.Nat.{ℕ}
use mathlib.Core.Path.{◌≡◌}
use mathlib.Core.List.{List}
use lib.IntN.{ℤ, pos}
use lib.ListN.{length}
use borrow.Author.Tests.{ne_eqb}
use Rattle.dispatch.specs.declared.Record.{Record}
use Rattle.listing.specs.Listed.{Listed}
use Rattle.listing.specs.Listed.{listed_of}
use Rattle.host.specs.Dispatcher.{list_or}

module _ (r : Record) (buf : List ℕ) (len : ℤ) {a : Listed} {z : ℤ} (e : a ≡ listed_of r (length buf)) where
  pub list_taken : z ≡ pos a.length → a.refusal.no ≡ 0 → record { refusal = a.refusal.no; len = z } ≡ list_or r buf len
  unfolding list_or
  list_taken s t = rw (s, ← e, t)

  pub list_refused : z ≡ len → (a.refusal.no ≡ 0 → ⊥) → record { refusal = a.refusal.no; len = z } ≡ list_or r buf len
  unfolding list_or
  list_refused s n = rw (s, ← e, ne_eqb a.refusal.no 0 n)
