-- `run_lengths::Work::without_run` meets its contract.
use Prim.Native.Nat.{ℕ, ◌+◌}
use mathlib.Core.Path.{◌≡◌, ◌∙◌}
use mathlib.Core.List.{List, [], ◌∷◌, ◌++◌}
use native.Mathlib.Omega.{arith}
use borrow.Author.Rules.{rules}
use lib.ListN.{length, drop}
use Rattle.units.specs.Limits.{runs_limit}
use Rattle.lists.proofs.Moved.{moved_up}
use Rattle.run_lengths.specs.declared.Work.{Work}
use Rattle.run_lengths.specs.Work.{without_length}
use Rattle.run_lengths.proofs.Work.without_run.Goals as goal

-- one run more has ended, and the others move up
run_ended : (wk : Work) (xs : List ℕ) → xs ≡ drop 1 wk.lengths ++ (0 ∷ [])
    → ◌≡◌ {A = Work} (record { lengths = xs; ended = wk.ended + 1 }) (without_length wk)
unfolding without_length
run_ended wk xs e = rw e

pub returns : goal.returns
returns c =
    let wk = c.args.self in
    let long : length wk.lengths ≡ runs_limit = search rules in
    run_ended wk _ (c.rotate_left.ensures.after ∙ moved_up wk.lengths 0 (omega arith))
