-- The plan of a list that is taken: each line has its task's numbers and the shares that the two passes give at its place.
use Prim.Native.Nat.{ℕ, ◌-◌, ◌<◌}
use mathlib.Core.Path.{◌≡◌, ap, ap₂, ◌∙◌}
use mathlib.Core.List.{List, [], ◌++◌}
use native.Mathlib.Omega.{arith}
use lib.ListN.{length, get_or, length-map}
use Rattle.units.specs.Limits.{cores_limit, tasks_limit}
use Rattle.lists.specs.Lists.{zeros, parts}
use Rattle.admission.specs.Weight.{padded}
use Rattle.admission.specs.Words.{tasks, cost, period, common_of, weights_of, weight_of}
use Rattle.admission.specs.Given.{Taken}
use Rattle.admission.proofs.Padded.{padded_at}
use Rattle.admission.proofs.TakenWeights.{weight_range}
use Rattle.ordering.specs.Order.{place_of, in_order}
use Rattle.ordering.proofs.Picks.{in_order_length, place_order}
use Rattle.assignment.specs.Passes.{passes, shares_of, rooms}
use Rattle.assignment.specs.Load.{by_load}
use Rattle.assignment.proofs.Placed.{placed_length}
use Rattle.assignment.proofs.Shape.{passes_length}
use Rattle.planning.specs.Plan.{line, no_line, plan_for}
use Rattle.soundness.proofs.Keeps.{Fits}
use Rattle.soundness.proofs.PlannedLines.{task_line_lem}
use Rattle.soundness.proofs.Taken.{taken_fits}
use Rattle.lateness.proofs.Tasks.{get_or_map_in}
use Rattle.demands.proofs.Beneath.CoresInUse.{wider, in_use}
use Rattle.demands.proofs.Beneath.AtPlace.{at_place}
use Rattle.demands.proofs.Beneath.OrderKept.{in_order_zeros, place_zeros}

-- the row that the passes give at task k's place, over the m cores
abbrev pub row_at_place : ℕ → List ℕ → ℕ → List ℕ
row_at_place m xs k = get_or (by_load (common_of xs) (in_order (weights_of xs)) (zeros m)) (place_of (weights_of xs) k) []

module _ (m : ℕ) (xs : List ℕ) (t : Taken m xs) where
  -- it is the row of the plan, which goes on with the cores that are not in use
  row_is : (k : ℕ) → k < tasks xs
      → get_or (shares_of (padded (weights_of xs)) (rooms m (common_of xs))) k [] ≡ row_at_place m xs k ++ zeros (cores_limit - m)
  row_is k h =
      let l : ℕ = common_of xs in
      let ws : List ℕ = weights_of xs in
      let n : ℕ = tasks_limit - length ws in
      let some : 0 < get_or ws k 0 = (weight_range m xs t k h).0 in
      let over = in_use m l (in_order ws) t.cores.0 in
      let rows : List (List ℕ) = by_load l (in_order ws) (zeros m) in
      let long : length rows ≡ parts ws = omega (
        arith,
        ap length over,
        length-map rows (wider (cores_limit - m)),
        passes_length (in_order ws) (rooms m l),
        in_order_length ws,
      ) in
      at_place (padded ws) (rooms m l) k (omega (arith, padded_at ws k))
      ∙ ap₂ (λ (vs : List ℕ) (p : ℕ). get_or (passes vs (rooms m l)) p []) (in_order_zeros n ws) (place_zeros n ws k some)
      ∙ ap (λ (rs : List (List ℕ)). get_or rs (place_of ws k) []) over
      ∙ get_or_map_in (wider (cores_limit - m)) rows (place_of ws k) [] [] (omega (arith, (place_order ws k some).0))

  -- the line of task k
  pub line_is : (k : ℕ) → k < tasks xs
      → get_or (plan_for m (common_of xs) (padded (weights_of xs)) xs).lines k no_line
      ≡ line (cost xs k) (period xs k) (weight_of xs k) (row_at_place m xs k ++ zeros (cores_limit - m))
  unfolding plan_for
  line_is k h =
      let l : ℕ = common_of xs in
      let ws : List ℕ = padded (weights_of xs) in
      let f : Fits m l xs ws = taken_fits m xs t in
      task_line_lem xs ws (shares_of ws (rooms m l)) f.tasks_few f.weighed (placed_length m l ws ∙ f.weighed) k h
      ∙ ap₂ (λ (w : ℕ) (row : List ℕ). line (cost xs k) (period xs k) w row) (padded_at (weights_of xs) k) (row_is k h)
