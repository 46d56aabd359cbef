-- `listing::listed::list_plan` meets its contract.
use mathlib.Core.Path.{◌≡◌, ap, ◌∙◌}
use native.Mathlib.Omega.{arith}
use lib.ListN.{length}
use Rattle.units.specs.Limits.{tasks_limit}
use Rattle.soundness.proofs.Facts.{tasks_few}
use Rattle.planning.specs.Shape.{PlanShaped}
use Rattle.soundness.proofs.SoundKept.{sound_kept}
use Rattle.listing.specs.Listed.{unlisted}
use Rattle.listing.proofs.Wide.{wide}
use Rattle.listing.proofs.Answers.{too_long, written}
use Rattle.listing.proofs.Fits.{listing_length}
use borrow.Author.Rules.{rules}
use Rattle.listing.proofs.listed.list_plan.Goals.{Start}
use Rattle.listing.proofs.listed.list_plan.Goals as goal

-- sixty-four lines of sixteen shares
shaped : (s : Start) → PlanShaped s.args.plan
shaped s =
    let pl = s.args.plan in
    let l : length pl.lines ≡ tasks_limit = search rules in
    record { lines = l; shares = λ i h. wide pl.lines _ s.well_formed.0.1.1.1.1.1.0.1.1 i (omega (arith, l)) }

pub bounds_of-lates-requires : goal.bounds_of-lates-requires
bounds_of-lates-requires c = sound_kept c.args.plan (shaped (goal.at.bounds_of-lates-requires c).Start) c.requires

pub put_plan-requires : goal.put_plan-requires
put_plan-requires c =
    (tasks_few c.args.plan c.requires, search rules)

pub returns-then-buf-ge-LISTING : goal.returns-then-buf-ge-LISTING
returns-then-buf-ge-LISTING c =
    let w = c.put_plan.ensures.wrote in
    let a = written c.args.plan w w.end (omega (
      arith,
      w.end,
      c.if-buf-ge-LISTING.true,
      listing_length c.args.plan
          (shaped (goal.at.returns-then-buf-ge-LISTING c).Start) c.requires,
    )) in
    record { value = a.0; buf_after = a.1 }

pub put_plan-need-requires : goal.put_plan-need-requires
put_plan-need-requires c =
    (tasks_few c.args.plan c.requires, search rules)

pub returns-then-buf-need : goal.returns-then-buf-need
returns-then-buf-need c =
    let a = too_long c.args.plan c.args.buf.now c.put_plan-need.ensures.wrote.end c.if-buf-need.true in
    record { value = ap unlisted c.from.ensures ∙ a.0; buf_after = a.1 }

pub put_plan-requires-2 : goal.put_plan-requires-2
put_plan-requires-2 c =
    (tasks_few c.args.plan c.requires, search rules)

pub returns : goal.returns
returns c =
    let w = c.put_plan-2.ensures.wrote in
    let a = written c.args.plan w w.end (omega (arith, w.end, c.put_plan-need.ensures.wrote.end, c.if-buf-need.false)) in
    record { value = a.0; buf_after = a.1 }
