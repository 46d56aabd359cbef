-- The movers of a plan that keeps what a plan has to keep: their shares leave room, their costs and periods are small.
use Prim.Native.Nat.{ℕ, ◌+◌, ◌*◌, ◌≤◌, ◌<◌}
use mathlib.Core.Path.{◌≡◌, refl, sym, ap₂, ◌∙◌}
use mathlib.Core.List.{List}
use native.Mathlib.Omega.{arith}
use lib.ListN.{get_or}
use Rattle.units.specs.Limits.{cores_limit, period_limit}
use Rattle.lists.specs.Lists.{most}
use Rattle.lists.proofs.Lists.{most_ge}
use Rattle.arith.specs.Ceiling.{ceil_div}
use Rattle.task_shares.specs.Movers.{first_core, upper, lower}
use Rattle.assignment.proofs.Properties.{halves, one_upper, one_lower, no_mover_lem}
use Rattle.planning.specs.declared.Line.{Line}
use Rattle.planning.specs.declared.Plan.{Plan}
use Rattle.planning.specs.Plan.{empty_line, row_of}
use Rattle.planning.specs.Kept.{PlanKept}
use Rattle.lateness.specs.declared.movers.Movers.{Movers}
use Rattle.lateness.specs.Lateness.{upper_on, lower_on, share_on, push, reach_on, fixed_late}
use Rattle.lateness.specs.Inner.{mover_on, no_mover, MoversOf, reach_by, pair_late, reach_limit, PairInRange}
use Rattle.lateness.proofs.Words.{fixed_alone}
use Rattle.lateness.proofs.Pair.{empty_share, empty_load, first_share, first_le, over_pair}

-- the upper mover h and the lower mover ln of core p
pub record Modest (l p : ℕ) (h ln : Line) : Type 0 where
  pub half : 2 * share_on p h ≤ l
  pub two_thirds : 3 * (share_on p h + share_on p ln) ≤ 2 * l
  pub upper_cost : h.cost.0 ≤ period_limit
  pub upper_period : h.period.0 ≤ period_limit
  pub lower_cost : ln.cost.0 ≤ period_limit
  pub lower_period : ln.period.0 ≤ period_limit

module _ (pl : Plan) (k : PlanKept pl) (p : ℕ) where
  -- those of a plan
  pub modest : Modest pl.common p (upper_on p pl.lines) (lower_on p pl.lines)
  unfolding empty_line
  modest =
      let s = halves k.structure p in
      let u = first_share (upper p) p pl.lines in
      let w = first_share (lower p) p pl.lines in
      record {
        half = omega arith;
        two_thirds = omega arith;
        upper_cost = first_le (upper p) (λ ln. ln.cost.0) period_limit (omega arith) pl.lines k.costs;
        upper_period = first_le (upper p) (λ ln. ln.period.0) period_limit (omega arith) pl.lines k.periods;
        lower_cost = first_le (lower p) (λ ln. ln.cost.0) period_limit (omega arith) pl.lines k.costs;
        lower_period = first_le (lower p) (λ ln. ln.period.0) period_limit (omega arith) pl.lines k.periods;
      }

  -- a fixed task's bound, from the two
  pub fixed_pair : (rs : List ℕ)
      → fixed_late pl.common rs pl.lines p ≡ pair_late pl.common rs (mover_on p (upper_on p pl.lines)) (mover_on p (lower_on p pl.lines))
  unfolding fixed_late
  fixed_pair rs =
      let u = one_upper k.structure p in
      let w = one_lower k.structure p in
      ap₂ ceil_div
      (over_pair p (λ ln. push rs p ln + pl.common * (2 * ln.cost.0)) (empty_load rs p pl.common) pl.lines u w ∙ omega arith)
      (omega (arith, over_pair p (share_on p) (empty_share p) pl.lines u w))

  -- and 0 past the last core
  pub fixed_beyond : (rs : List ℕ) → cores_limit ≤ p → fixed_late pl.common rs pl.lines p ≡ 0
  fixed_beyond rs h = fixed_alone pl.common k.common_some rs pl.lines p (no_mover_lem k.structure p (omega (arith, k.cores_few)))

  -- numbers small enough to work with
  pair_in_range : (rs : List ℕ) → most rs ≤ reach_limit → PairInRange pl.common rs (mover_on p (upper_on p pl.lines)) (mover_on p (lower_on p pl.lines))
  pair_in_range rs b =
      let m = modest in
      let l = k.common_small in
      record {
        common = l;
        room = omega arith;
        upper = record {
          share = omega arith;
          reach = omega
              (arith, most_ge rs (first_core (row_of (upper_on p pl.lines))));
          period = m.upper_period;
          cost = m.upper_cost;
        };
        lower = record {
          share = omega arith;
          reach = omega
              (arith, most_ge rs (first_core (row_of (lower_on p pl.lines))));
          period = m.lower_period;
          cost = m.lower_cost;
        };
      }

  -- the movers as the code keeps them
  module _ (ms : Movers) (m : MoversOf pl.lines ms) (rs : List ℕ) (h : p < cores_limit) where
    -- their numbers are small enough
    pub movers_in_range : most rs ≤ reach_limit → PairInRange pl.common rs (get_or ms.upper p no_mover) (get_or ms.lower p no_mover)
    movers_in_range b = rw (m.uppers p h, m.lowers p h) (pair_in_range rs b)

    -- their reach is that of the plan's
    pub movers_reach : reach_by pl.common rs (get_or ms.upper p no_mover) (get_or ms.lower p no_mover)
        ≡ reach_on pl.common rs p (upper_on p pl.lines) (lower_on p pl.lines)
    unfolding reach_on
    movers_reach = rw (m.uppers p h, m.lowers p h) refl

    -- and so is the bound of the fixed tasks
    pub movers_late : pair_late pl.common rs (get_or ms.upper p no_mover) (get_or ms.lower p no_mover) ≡ fixed_late pl.common rs pl.lines p
    movers_late = rw (m.uppers p h, m.lowers p h) (sym (fixed_pair rs))
