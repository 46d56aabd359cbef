-- Document 01, "Lateness bounds, in ticks", said of the tasks of a plan with the bounds that are listed. Tasks and cores are counted from 0.
use Rattle.std.specs.Prelude.{ℕ, zero, suc, ◌+◌, ◌*◌, ◌-◌, ◌≡◌, true, false, get_or, ℤ, pos, nat_abs, ◌+ℤ◌}
use Rattle.std.proofs.Math.IntN.{sub_ℕ}
use Rattle.lists.specs.Lists.{val}
use Rattle.arith.specs.Ceiling.{ceil_div}
use Rattle.task_shares.specs.Movers.{moves_on, upper}
use Rattle.planning.specs.declared.Line.{Line}
use Rattle.planning.specs.declared.Plan.{Plan}
use Rattle.planning.specs.Plan.{no_line, row_of}
use Rattle.lateness.specs.Lateness.{share_on, lates_of}

-- task i's line
abbrev pub line_of : Plan → ℕ → Line
line_of pl i = get_or pl.lines i no_line

-- its bound D
abbrev pub bound_of : Plan → ℕ → ℤ
bound_of pl i = get_or (lates_of pl) i (pos 0)

-- D + 2T, which is below 0 for no mover
abbrev pub two_past : Plan → ℕ → ℕ
two_past pl i = nat_abs (bound_of pl i +ℤ pos (2 * (line_of pl i).period.0))

-- a number of each of the first n tasks, summed
abbrev pub sum_of : ℕ → (ℕ → ℕ) → ℕ
sum_of zero g = 0
sum_of (suc n) g = sum_of n g + g n

-- a number of each mover on core p, summed
abbrev pub sum_on : Plan → ℕ → (ℕ → ℕ) → ℕ
sum_on pl p g = sum_of pl.count (λ h. val (moves_on p (row_of (line_of pl h))) (g h))

-- the bound of mover i, whose first core is p
pub record MoverBound (pl : Plan) (i p : ℕ) : Type 0 where
  -- with the upper mover h there, of share s: (s × (D_h + 2T_h) + L × (2C_h + C)) / (L − s), rounded up, less T
  pub beside : (h : ℕ) → upper p (row_of (line_of pl h)) ≡ true →
      let s = share_on p (line_of pl h) in
      bound_of pl i
      ≡ sub_ℕ (ceil_div (s * two_past pl h + pl.common * (2 * (line_of pl h).cost.0 + (line_of pl i).cost.0)) (pl.common - s)) (line_of pl i).period.0
  -- with no h: C − T
  pub alone : ((h : ℕ) → upper p (row_of (line_of pl h)) ≡ false) → bound_of pl i ≡ sub_ℕ (line_of pl i).cost.0 (line_of pl i).period.0

-- the bound of task i, fixed on core p
pub record FixedBound (pl : Plan) (i p : ℕ) : Type 0 where
  -- the sum over its core's movers of s × (D + 2T) + L × 2C, divided by L less their shares, rounded up
  pub beside : bound_of pl i
      ≡ pos (ceil_div (sum_on pl p (λ h. share_on p (line_of pl h) * two_past pl h + pl.common * (2 * (line_of pl h).cost.0)))
      (pl.common - sum_on pl p (λ h. share_on p (line_of pl h))))
  -- 0 with no mover
  pub alone : ((h : ℕ) → moves_on p (row_of (line_of pl h)) ≡ false) → bound_of pl i ≡ pos 0
