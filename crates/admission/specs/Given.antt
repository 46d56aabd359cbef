-- Planning's rows of document 01, "Refusal numbers", each with the earlier ones not applying.
use Rattle.std.specs.Prelude.{ℕ, suc, ◌<◌, List}
use Rattle.arith.specs.Period.{periods, TakesOver}
use Rattle.admission.specs.Words.{
  CoresIn,
  CoresOut,
  TableIn,
  TableOut,
  tasks,
  RangeIn,
  RangeOut,
  CostOver,
  Fine,
  RangesIn,
  NoneOver,
  PeriodIn,
  AllFit,
  Overfull,
}

-- none of 1 to 6 applies
pub record Taken (m : ℕ) (xs : List ℕ) : Type 0 where
  pub cores : CoresIn m
  pub table : TableIn xs
  pub ranges : RangesIn xs
  pub costs : NoneOver xs
  pub within : PeriodIn xs
  pub fit : AllFit m xs

-- none of 1 to 4 applies
pub record Tested (m : ℕ) (xs : List ℕ) : Type 0 where
  pub cores : CoresIn m
  pub table : TableIn xs
  pub ranges : RangesIn xs
  pub costs : NoneOver xs

-- neither 1 nor 2 applies, nor 3 or 4 to a task before task k
pub record Reached (m : ℕ) (xs : List ℕ) (k : ℕ) : Type 0 where
  pub cores : CoresIn m
  pub table : TableIn xs
  pub there : k < tasks xs
  pub before : (j : ℕ) → j < k → Fine xs j

-- refusal n, naming task i from 1, is given exactly if: (0 is no refusal)
pub data Given (m : ℕ) (xs : List ℕ) : ℕ → ℕ → Type 0 where
  none : Taken m xs → Given m xs 0 0
  one : CoresOut m → Given m xs 1 0
  two : CoresIn m → TableOut xs → Given m xs 2 0
  three : {k : ℕ} → Reached m xs k → RangeOut xs k → Given m xs 3 (suc k)
  four : {k : ℕ} → Reached m xs k → RangeIn xs k → CostOver xs k → Given m xs 4 (suc k)
  five : {i : ℕ} → Tested m xs → TakesOver (periods xs) i → Given m xs 5 i
  six : Tested m xs → PeriodIn xs → Overfull m xs → Given m xs 6 0
