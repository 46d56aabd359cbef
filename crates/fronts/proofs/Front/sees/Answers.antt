-- `fronts::Front::sees` meets its contract.
use Prim.Native.Nat.{ℕ, ◌<◌, ◌≤◌}
use mathlib.Core.Path.{◌≡◌, refl}
use mathlib.Core.Bool.{Bool}
use lib.Dec.{leb}
use borrow.Author.Tests.{lt-ltb, le-leb}
use Rattle.units.specs.Limits.{cores_limit}
use Rattle.fronts.specs.declared.Front.{Front}
use Rattle.fronts.specs.Front.{sees}
use Rattle.fronts.proofs.Front.sees.Goals as goal

-- a run on a core is seen from its release time on
placed : (f : Front) (t : ℕ) → (0 < f.core) × (f.core ≤ cores_limit) → {b : Bool} → b ≡ leb f.release.0 t → b ≡ sees f t
placed f t h q = rw (q, lt-ltb 0 f.core h.0, le-leb f.core cores_limit h.1)

pub returns-then-self-le-CORES : goal.returns-then-self-le-CORES
returns-then-self-le-CORES c = let s = c.args in placed s.self s.time.0 c.if-self-le-CORES.true refl
