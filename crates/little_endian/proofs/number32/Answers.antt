-- `little_endian::number32` meets its contract.
use Prim.Native.Nat.{ℕ, ◌+◌}
use mathlib.Core.Path.{◌≡◌}
use mathlib.Core.List.{List}
use native.Mathlib.Omega.{arith}
use lib.ListN.{get_or}
use Rattle.little_endian.specs.Number.{number, number32_at}
use Rattle.little_endian.proofs.number32.Goals as goal

-- the number of the four bytes from a place on
number_at : (bytes : List ℕ) (at : ℕ) {a b c d x : ℕ} → a ≡ get_or bytes at 0 → b ≡ get_or bytes (at + 1) 0 → c ≡ get_or bytes (at + 2) 0
    → d ≡ get_or bytes (at + 3) 0 → x ≡ number a b c d → x ≡ number32_at bytes at
number_at bytes at p q r s e = rw (e, p, q, r, s)

pub returns : goal.returns
returns c =
    let s = c.args in
    number_at s.bytes.now s.at c.byte_at-a.ensures c.byte_at-b.ensures c.byte_at-c.ensures c.byte_at-d.ensures (omega arith)
