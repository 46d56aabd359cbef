-- `units::refusal::in_force` meets its contract: each number is that of its reason.
use mathlib.Core.Path.{refl}
use Rattle.units.proofs.refusal.in_force.Goals as goal

pub returns : goal.returns
returns c =
    rw (c.number.ensures, c.number-2.ensures, c.number-3.ensures, c.number-4.ensures, c.number-5.ensures, c.number-6.ensures)
    (rw (c.number-7.ensures, c.number-8.ensures, c.number-9.ensures, c.number-10.ensures, c.number-11.ensures, c.number-12.ensures)
    (rw (c.number-13.ensures, c.number-14.ensures, c.number-15.ensures, c.number-16.ensures, c.number-17.ensures, c.number-18.ensures)
    (rw (c.number-19.ensures, c.number-20.ensures, c.number-21.ensures) refl)))
