-- `soundness::cores::cores_sound` meets its contract: the cores that are passed are sound or not.
use mathlib.Core.Path.{refl, sym}
use Rattle.lists.specs.Below.{all_below}
use Rattle.lists.proofs.Below.{all_suc}
use Rattle.soundness.specs.Inner.{sums_sound}
use Rattle.soundness.proofs.cores.cores_sound.Goals as goal

pub loop-p-init : goal.loop-p-init
unfolding all_below
loop-p-init c = refl

pub loop-p-preserved : goal.loop-p-preserved
loop-p-preserved c =
    let s = c.args in
    rw (c.core_within.ensures, c.few_movers.ensures, c.one_first.ensures, c.guarded.ensures, c.loop-p.invariant)
    (sym (all_suc (sums_sound s.cores s.common s.sums) c.loop-p.p))
