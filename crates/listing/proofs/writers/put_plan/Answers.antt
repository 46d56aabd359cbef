-- `listing::writers::put_plan` meets its contract: after the first line those of the first i tasks are written.
use mathlib.Core.Path.{◌≡◌, ap, ◌∙◌}
use native.Mathlib.Omega.{arith}
use mathlib.Core.List.{◌++◌}
use Prim.Native.Nat.{◌+◌}
use mir.Syntax.{w64}
use mir.Val.{SFits}
use mir.ValLaws.{to_z-of_z}
use lib.IntN.{ℤ, pos}
use lib.ListN.{get_or}
use borrow.Author.Rules.{rules}
use Rattle.planning.specs.Plan.{no_line}
use Rattle.writing.proofs.Wrote.{then, recast, none}
use Rattle.listing.specs.Listing.{task_text, tasks_text, first_text, listing_text}
use Rattle.listing.proofs.Texts.{tasks_more}
use Rattle.listing.proofs.writers.put_plan.Goals as goal

pub loop-i-init : goal.loop-i-init
unfolding tasks_text
loop-i-init c = (none _ _, c.put_first-next.ensures.upper_bound)

pub loop-i-preserved : goal.loop-i-preserved
loop-i-preserved c =
    let l = c.loop-i in
    let a = c.args in
    let p = c.put_task-next.ensures in
    let z = get_or a.lates l.i (pos 0) in
    let f : SFits w64 z = search rules in (
      recast (ap (λ (x : ℤ). tasks_text a.plan.lines a.lates l.i ++ task_text (l.i + 1) (get_or a.plan.lines l.i no_line) x) (to_z-of_z w64 z f)
          ∙ tasks_more a.plan.lines a.lates l.i) (then l.invariant.0 p.wrote),
      search rules,
    )

pub returns-clause-wrote : goal.returns-clause-wrote
unfolding listing_text
returns-clause-wrote c =
    let l = c.loop-i in
    let pl = c.args.plan in
    let e : l.i ≡ pl.count = omega arith in
    recast (ap (λ lates. first_text pl.cores pl.common ++ tasks_text pl.lines lates pl.count) c.requires.1)
    (then c.put_first-next.ensures.wrote (recast (ap (tasks_text pl.lines c.args.lates) e) l.invariant.0))
