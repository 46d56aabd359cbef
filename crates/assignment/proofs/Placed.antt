-- The planner's own plan keeps what a plan has to keep.
use Prim.Native.Nat.{ℕ, zero, suc, ◌*◌, ◌-◌, ◌≤◌, ◌<◌}
use mathlib.Core.Path.{◌≡◌, refl, ◌∙◌}
use mathlib.Core.List.{List, [], ◌++◌}
use native.Mathlib.Omega.{arith}
use lib.ListN.{length, get_or, replicate, length-append, length-replicate}
use Rattle.units.specs.Limits.{cores_limit}
use Rattle.lists.specs.Lists.{zeros, total, most, bit, val}
use Rattle.lists.specs.Rows.{how_many, column}
use Rattle.lists.proofs.Lists.{zeros_at, zeros_sum, zeros_parts}
use Rattle.ordering.specs.Order.{in_order}
use Rattle.assignment.specs.Passes.{shares_of, rooms}
use Rattle.task_shares.specs.Movers.{fixed_on, moves_on, lower, upper}
use Rattle.assignment.specs.Structure.{CoreKept, Structure}
use Rattle.assignment.proofs.Loads.{count_movers}
use Rattle.assignment.proofs.Passes.{passes_column, passes_uppers, passes_lowers}
use Rattle.assignment.proofs.Guard.{passes_guard}
use Rattle.assignment.proofs.Picks.{order_falls, order_most}
use Rattle.assignment.proofs.Shape.{shares_length, shares_wide}
use Rattle.assignment.proofs.Scatter.{sum_shares, max_shares, shares_sums}

module _ (l k : ℕ) where
  -- the room of m empty cores of l units, and of k that are not there
  room_sum : (m : ℕ) → total (replicate m l ++ zeros k) ≡ m * l
  room_sum zero = omega (arith, zeros_sum k)
  room_sum (suc m) = omega (arith, room_sum m)

  -- on each of the m
  room_at : (m p : ℕ) → p < m → get_or (replicate m l ++ zeros k) p 0 ≡ l
  room_at zero p h = absurd (omega arith)
  room_at (suc m) zero h = refl
  room_at (suc m) (suc p) h = room_at m p (omega arith)

  -- and on the others
  room_beyond : (m p : ℕ) → m ≤ p → get_or (replicate m l ++ zeros k) p 0 ≡ 0
  room_beyond zero p h = zeros_at k p
  room_beyond (suc m) zero h = absurd (omega arith)
  room_beyond (suc m) (suc p) h = room_beyond m p (omega arith)

-- a number for each core
room_length : (m l : ℕ) → m ≤ cores_limit → length (rooms m l) ≡ cores_limit
room_length m l few =
    omega (arith, length-append (replicate m l) (zeros (cores_limit - m)), length-replicate m l, length-replicate {A = ℕ} (cores_limit - m) 0)

module _ (p : ℕ) (ws room : List ℕ) where
  -- no core is filled past its room
  column_le : column p (shares_of ws room) ≤ get_or room p 0
  column_le = omega (arith, sum_shares (λ r. get_or r p 0) ws room (zeros_at (length room) p) refl, passes_column p (in_order ws) room)

  -- at most one upper mover
  uppers : how_many (upper p) (shares_of ws room) ≤ 1
  uppers =
      omega (arith, sum_shares (λ r. bit (upper p r)) ws room (rw (zeros_parts (length room))) refl, passes_uppers p (in_order ws) room)

  -- and one lower
  lowers : how_many (lower p) (shares_of ws room) ≤ 1
  lowers =
      omega (arith, sum_shares (λ r. bit (lower p r)) ws room (rw (zeros_parts (length room))) refl, passes_lowers p (in_order ws) room)

  -- a core that pass one finds empty
  core : (l : ℕ) → p < length room → get_or room p 0 ≡ l → most ws ≤ l → CoreKept l p (shares_of ws room)
  core l h e k =
      let u = uppers in
      let w = lowers in
      let c = count_movers p (shares_of ws room) in
      record {
        within = omega (arith, column_le);
        few = omega arith;
        first = λ two. omega arith;
        guarded =
            omega (
              arith,
              max_shares (λ r. val (moves_on p r) (total r)) ws room (rw (zeros_parts (length room))) refl,
              max_shares (λ r. val (fixed_on p r) (total r)) ws room (rw (zeros_parts (length room))) refl,
              passes_guard l p (in_order ws) room (order_falls ws) (omega (arith, order_most ws)) e h,
            );
      }

-- where no task outweighs a core, nor all tasks all cores
pub placed : (m l : ℕ) (ws : List ℕ) → 0 < m → m ≤ cores_limit → most ws ≤ l → total ws ≤ m * l
    → Structure m l ws (shares_of ws (rooms m l))
placed m l ws some few within fits =
    let room : List ℕ = rooms m l in
    let k : ℕ = cores_limit - m in
    let n : length room ≡ cores_limit = room_length m l few in
    record {
      sums = shares_sums ws room (omega arith) (omega (arith, room_sum l k m));
      cores = λ p h. core p ws room l (omega arith) (room_at l k m p h) within;
      beyond = λ p h. omega (arith, column_le p ws room, room_beyond l k m p h);
    }

-- a row for each task
pub placed_length : (m l : ℕ) (ws : List ℕ) → length (shares_of ws (rooms m l)) ≡ length ws
placed_length m l ws = shares_length ws (rooms m l)

-- and in it a number for each core
pub placed_wide : (m l : ℕ) (ws : List ℕ) → m ≤ cores_limit → (i : ℕ) → i < length ws
    → length (get_or (shares_of ws (rooms m l)) i []) ≡ cores_limit
placed_wide m l ws few i h = shares_wide ws (rooms m l) i h ∙ room_length m l few
