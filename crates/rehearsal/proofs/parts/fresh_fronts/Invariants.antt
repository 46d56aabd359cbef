-- `rehearsal::parts::fresh_fronts` meets its contract.
use mathlib.Core.Path.{◌≡◌}
use Rattle.rehearsal.specs.Parts.{fresh_fronts}
use Rattle.rehearsal.proofs.parts.fresh_fronts.Given as goal

abbrev pub invariant-loop-i : goal.invariant-loop-i
invariant-loop-i l = l.fronts ≡ fresh_fronts l.initial.fronts l.plan.lines l.i
