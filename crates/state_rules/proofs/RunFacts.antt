-- What the soundness of one run says, as facts.
use Prim.Native.Nat.{◌+◌, ◌-◌, ◌≤◌, ◌<◌}
use mathlib.Core.Path.{◌≡◌}
use mathlib.Core.Bool.{true, ◌&&◌}
use borrow.Author.Tests.{leb-true, le-leb, ltb-true, lt-ltb}
use lib.Dec.{ltb, leb}
use lib.ListN.{get_or}
use Rattle.units.specs.Limits.{cores_limit, clock_limit}
use Rattle.lists.proofs.Tests.{and_left, and_right}
use Rattle.planning.specs.declared.Line.{Line}
use Rattle.planning.specs.Plan.{row_of}
use Rattle.stored_runs.specs.declared.Run.{Run}
use Rattle.state_rules.specs.Sound.{run_sound}

pub record RunFacts (ln : Line) (r : Run) : Type 0 where
  pub from : 0 < r.core
  pub to : r.core ≤ cores_limit
  pub share : 0 < get_or (row_of ln) (r.core - 1) 0
  pub due : r.deadline.0 ≤ clock_limit + ln.period.0

module _ (ln : Line) (r : Run) where
  -- soundness says them
  pub run_facts : run_sound ln r ≡ true → RunFacts ln r
  run_facts e =
      let some = ltb 0 r.core in
      let few = leb r.core cores_limit in
      let has = ltb 0 (get_or (row_of ln) (r.core - 1) 0) in
      let due = leb r.deadline.0 (clock_limit + ln.period.0) in
      let three = and_left (some && few && has) due e in
      let two = and_left (some && few) has three in
      record {
        from = ltb-true 0 r.core (and_left some few two);
        to = leb-true r.core cores_limit (and_right some few two);
        share = ltb-true 0 (get_or (row_of ln) (r.core - 1) 0) (and_right (some && few) has three);
        due = leb-true r.deadline.0 (clock_limit + ln.period.0) (and_right (some && few && has) due e);
      }

  -- and they say it
  pub from_run_facts : RunFacts ln r → run_sound ln r ≡ true
  from_run_facts f =
      rw (
        lt-ltb 0 r.core f.from,
        le-leb r.core cores_limit f.to,
        lt-ltb 0 (get_or (row_of ln) (r.core - 1) 0) f.share,
        le-leb r.deadline.0 (clock_limit + ln.period.0) f.due,
      )
