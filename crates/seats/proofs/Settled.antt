-- Any two answers that a public function's contract allows are equal.
use mathlib.Core.Path.{◌≡◌, sym, ap, ◌∙◌}
use Rattle.lists.specs.Settled.{Settled}
use Rattle.units.proofs.Refusals.{same_number}
use Rattle.seats.specs.declared.Arrived.{Arrived as Told}
use Rattle.seats.specs.Seat.{Arrived, arrival_told}
use Rattle.seats.proofs.Seat.arrive.Reads as SeatArrive
use Rattle.seats.proofs.Seat.end.Reads as SeatEnd

-- an answer is settled by what it tells
settled : (x y : Told) → arrival_told x ≡ arrival_told y → x ≡ y
settled x y e =
    let a : x.taken ≡ y.taken = same_number x.taken y.taken (ap (λ (r : Arrived). r.refusal) e) in
    let b : x.seat ≡ y.seat = ap (λ (r : Arrived). r.seat) e in
    let c : x.front ≡ y.front = ap (λ (r : Arrived). r.front) e in
    rw (a, b, c)

pub arrive : Settled SeatArrive.Post
arrive κs a x y e f p q = settled x y (p ∙ sym q)

pub end : Settled SeatEnd.Post
end κs a x y e f p q = p ∙ sym q
