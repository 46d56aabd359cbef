-- The rehearsal's desk as its code holds it.
use Rattle.std.specs.Prelude.{ℕ, replicate}
use Rattle.units.specs.Limits.{tasks_limit}
use Rattle.seats.specs.Seat.{fresh_seat}
use Rattle.rehearsal.specs.declared.steps.Desk.{Desk}

-- nothing yet, on so many cores
unfoldable pub fresh_desk : ℕ → Desk
fresh_desk cores = record { seats = replicate tasks_limit fresh_seat; time = 0; next = 0; core = cores; cores = cores; end = 0 }
