-- `lateness::bounds::bounds_of` meets its contract: of the lines from i on the movers are known, and what is noted of each.
use Prim.Native.Nat.{ℕ, ◌+◌, ◌-◌, ◌<◌}
use mathlib.Core.Path.{◌≡◌, refl, sym, ap, ◌∙◌}
use native.Mathlib.Omega.{arith}
use lib.Dec.{ltb}
use lib.ListN.{length, get_or, set, length-set}
use borrow.Author.Tests.{ltb-true}
use Rattle.units.specs.Limits.{tasks_limit, cores_limit}
use Rattle.lists.specs.Lists.{parts}
use Rattle.lists.proofs.Lists.{most_ge}
use Rattle.task_shares.specs.Movers.{moves}
use Rattle.planning.specs.declared.Line.{Line}
use Rattle.planning.specs.declared.Plan.{Plan}
use Rattle.planning.specs.Plan.{empty_line, no_line, row_of}
use Rattle.lateness.specs.Inner.{MoversOf}
use Rattle.lateness.proofs.Front.{as_mover, first_there, lower_front}
use Rattle.lateness.proofs.Gathered.{gathered_past, gathered_next}
use Rattle.lateness.proofs.Tasks.{Noted, noted_none, noted_next, periods_small, reaches_small, fixed_small, tasks_late}
use borrow.Author.Rules.{rules}
use Rattle.lateness.proofs.bounds.bounds_of.Goals.{After-first_core-first, After-loop-i, Start, Then-moves}
use Rattle.lateness.proofs.bounds.bounds_of.Goals as goal

-- the lines of all tasks
lines_long : (s : Start) → length s.args.plan.lines ≡ tasks_limit
lines_long s = search rules

-- after the loop all movers are known
all : (c : After-loop-i)
    → MoversOf c.args.plan.lines (record { upper = c.loop-i.upper; lower = c.loop-i.lower })
all c =
    let e : c.loop-i.i ≡ 0 = omega arith in
    rw e at c.loop-i.invariant.0

-- and what is noted of all tasks
noted : (c : After-loop-i) →
    let at = c.loop-i in
    Noted c.args.plan 0 at.notes
noted c =
    let e : c.loop-i.i ≡ 0 = omega arith in
    rw e at c.loop-i.invariant.2

-- the line that is read
abbrev read : Plan → ℕ → Line
read pl i = get_or pl.lines (i - 1) no_line

-- whether it moves
tells : (f : After-first_core-first) → f.moves_by-moves.result ≡ moves (row_of (read f.args.plan f.loop-i.i))
tells f = f.moves_by-moves.ensures ∙ ap (ltb 1) f.parts_of.ensures

-- one task more is noted
noted_more : (f : After-first_core-first) →
    let j = f.loop-i.i - 1 in
    Noted f.args.plan j (set f.loop-i.notes j (record {
      moves = f.moves_by-moves.result;
      period = (read f.args.plan f.loop-i.i).period;
      first = f.first_core-first.result;
    }))
noted_more f =
    let e : (f.loop-i.i - 1) + 1 ≡ f.loop-i.i = omega arith in
    noted_next f.args.plan _ f.loop-i.notes (rw e f.loop-i.invariant.2) _ (rw (tells f, f.first_core-first.ensures) refl)

-- if it moves its first core is a core
core-there : (c : Then-moves) →
    (1 < parts (row_of (read c.args.plan c.loop-i.i))) × (c.first_core-first.result < cores_limit)
core-there c =
    let ln = read c.args.plan c.loop-i.i in
    let m : 1 < parts (row_of ln) = ltb-true 1 (parts (row_of ln)) (sym (tells (goal.at.bounds-shares-first c).After-first_core-first) ∙ c.if-moves.true) in
    (m, omega (arith, c.first_core-first.ensures, first_there c.args.plan c.requires (c.loop-i.i - 1) m))

pub loop-i-init : goal.loop-i-init
unfolding empty_line
loop-i-init c =
    let pl = c.args.plan in
    let k = c.requires in
    let l = lines_long c in (
      gathered_past pl.lines (tasks_limit - pl.count) pl.count (omega (arith, k.tasks_few)) (λ q h m. k.past q h (omega arith)),
      refl,
      noted_none pl k,
    )

pub offset_bounds-shares-first : goal.offset_bounds-shares-first
offset_bounds-shares-first c = omega (arith, (core-there c).1)

pub bounds-shares-first : goal.bounds-shares-first
bounds-shares-first c = omega (arith, (core-there c).1)

pub offset_bounds-lower-first : goal.offset_bounds-lower-first
offset_bounds-lower-first c = omega (arith, (core-there (goal.at.offset_bounds-lower-first c).Then-moves).1)

pub bounds-lower-first : goal.bounds-lower-first
bounds-lower-first c = omega (arith, (core-there (goal.at.bounds-lower-first c).Then-moves).1)

pub loop-i-preserved-then-moves : goal.loop-i-preserved-then-moves
loop-i-preserved-then-moves c =
    let pl = c.args.plan in
    let j : ℕ = c.loop-i.i - 1 in
    let e : j + 1 ≡ c.loop-i.i = omega arith in
    let f = c.first_core-first in
    let t = core-there (goal.at.loop-i-preserved-then-moves c).Then-moves in
    let ln = read c.args.plan c.loop-i.i in
    let low = lower_front ln c.loop-i.lower f.result c.mover_on.result t.0 f.ensures
    (c.mover_on.ensures ∙ as_mover ln f.result f.result f.ensures) (omega (arith, t.1, c.loop-i.invariant.1)) in (
      gathered_next pl.lines j (record { upper = c.loop-i.upper; lower = c.loop-i.lower })
          (record { upper = c.with_line-above.result; lower = set c.loop-i.lower f.result c.mover_on.result })
          (omega (arith, lines_long (goal.at.loop-i-preserved-then-moves c).Start)) (rw e c.loop-i.invariant.0) c.with_line-above.ensures low,
      length-set c.loop-i.lower f.result c.mover_on.result ∙ c.loop-i.invariant.1,
      noted_more (goal.at.loop-i-preserved-then-moves c).After-first_core-first,
    )

pub fixed_of-fixed-requires : goal.fixed_of-fixed-requires
fixed_of-fixed-requires c =
    let rs = c.reaches_of-reaches in
    (c.requires, all (goal.at.fixed_of-fixed-requires c).After-loop-i, reaches_small c.args.plan rs.result rs.ensures c.requires, search rules)

pub lates_of-requires : goal.lates_of-requires
lates_of-requires c =
    let at = c.loop-i in
    let n = noted (goal.at.lates_of-requires c).After-loop-i in
    let b = reaches_small c.args.plan c.reaches_of-reaches.result c.reaches_of-reaches.ensures c.requires in
    record {
      notes_long = n.long;
      reaches_long = search rules;
      fixed_long = search rules;
      period = periods_small c.args.plan c.requires at.notes n;
      reach = λ p. omega (arith, b, most_ge c.reaches_of-reaches.result p);
      late = fixed_small c.args.plan c.reaches_of-reaches.result c.reaches_of-reaches.ensures c.fixed_of-fixed.result c.fixed_of-fixed.ensures c.requires;
    }

pub returns : goal.returns
returns c =
    let at = c.loop-i in
    let m : length c.lates_of.result ≡ tasks_limit = search rules in
    tasks_late c.args.plan c.reaches_of-reaches.result c.reaches_of-reaches.ensures c.fixed_of-fixed.result c.fixed_of-fixed.ensures
    at.notes c.lates_of.result (lines_long (goal.at.returns c).Start) m (noted (goal.at.returns c).After-loop-i) c.lates_of.ensures
