-- `rehearsal::ending::write_day` meets its contract.
use mathlib.Core.Path.{refl}
use native.Mathlib.Omega.{arith}
use Rattle.rehearsal.proofs.AtStop.{cores_in, tasks_in, leavable, texts}
use Rattle.rehearsal.proofs.ending.write_day.Goals as goal

pub put_spans-spans-requires : goal.put_spans-spans-requires
put_spans-spans-requires c =
    let few = cores_in _ _ _ c.requires in
    (omega (arith, c.rehearse-desk.ensures.end_bound), omega (arith, few), c.rehearse-desk.ensures.stood.wide)

pub put_unfinished-requires : goal.put_unfinished-requires
put_unfinished-requires c =
    let r = c.rehearse-desk.ensures.stood in
    let near = c.put_within-stopped.ensures.upper_bound in
    let few = cores_in _ _ _ c.requires in (
      omega (arith, near, c.put_spans-spans.ensures.upper_bound, c.rehearse-desk.ensures.end_bound, few),
      tasks_in _ _ _ c.requires,
      leavable _ _ _ c.requires _ _ _ r,
      r.long,
    )

pub returns : goal.returns
returns c =
    record {
      windowed =
          texts _ _ _ c.requires _ _ _ c.rehearse-desk.ensures.stood c.rehearse-desk.ensures.windowed c.put_spans-spans.ensures.fact
          c.put_within-stopped.ensures.windowed
          c.put_unfinished.ensures.windowed refl refl refl;
      upper_bound = omega (arith, tasks_in _ _ _ c.requires, cores_in _ _ _ c.requires);
    }
