-- After a release the next release time is at least T later.
use Prim.Native.Nat.{ℕ, ◌+◌, ◌≤◌}
use mathlib.Core.Path.{◌≡◌}
use native.Mathlib.Omega.{arith}
use lib.Dec.{ltb}
use borrow.Author.Tests.{ltb-false, eq-eqb}
use Rattle.lists.proofs.Tests.{by_cases}
use Rattle.release_times.specs.Times.{release_time}

pub apart : (had last period t : ℕ) → had ≡ 1 → last + period ≤ release_time had last period t
apart had last period t h =
    by_cases (ltb t (last + period))
    (λ e. rw (eq-eqb had 1 h, e) (omega arith))
    (λ e. rw (eq-eqb had 1 h, e) (ltb-false t (last + period) e))
