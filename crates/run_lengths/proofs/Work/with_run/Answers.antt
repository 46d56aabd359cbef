-- `run_lengths::Work::with_run` meets its contract.
use Prim.Native.Nat.{ℕ}
use mathlib.Core.Path.{◌≡◌, refl}
use lib.ListN.{set}
use Rattle.run_lengths.specs.declared.Work.{Work}
use Rattle.run_lengths.specs.Work.{with_length}
use Rattle.run_lengths.proofs.Work.with_run.Goals as goal

-- the length at its place, and nothing else
placed : (wk : Work) (k n : ℕ) → ◌≡◌ {A = Work} (record { lengths = set wk.lengths k n; ended = wk.ended }) (with_length wk k n)
unfolding with_length
placed wk k n = refl

pub returns : goal.returns
returns c = let s = c.args in placed s.self s.at s.length
