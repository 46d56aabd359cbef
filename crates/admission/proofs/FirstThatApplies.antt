-- Each refusal number is given exactly if its row of document 01 applies and no earlier one does.
use Prim.Native.Nat.{ℕ, suc, ◌≤◌, ◌<◌}
use mathlib.Core.Path.{◌≡◌, refl, ap}
use mathlib.Core.Logic.{◌↔◌, ◌⊎◌, ⊎_elim}
use mathlib.Core.List.{List}
use native.Mathlib.Omega.{arith}
use Rattle.arith.specs.Period.{periods, TakesOver}
use Rattle.arith.proofs.Table.{periods_length}
use Rattle.arith.proofs.Within.{period_over, over_period, over_large, large_over}
use Rattle.units.specs.Refusals.{refusal}
use Rattle.admission.specs.Admission.{plan_refusal}
use Rattle.units.specs.Refusals.{Refusal}
use Rattle.admission.specs.Words.{CoresIn, CoresOut, TableOut, tasks, RangeIn, RangeOut, CostOver, PeriodIn, PeriodOut, Overfull}
use Rattle.admission.specs.Given.{Tested, Reached, Given, none, one, two, three, four, five, six}
use Rattle.admission.proofs.Applies.{applies}
use Rattle.admission.proofs.Gives.{gives, gives_no, periods_some}

module _ (m : ℕ) (xs : List ℕ) where
  -- the row of the refusal that is given applies
  pub says : Given m xs (plan_refusal m xs).no (plan_refusal m xs).named
  says = let a = applies m xs in rw (gives m xs a.2) a.2

  -- refusal n, naming task i, is given exactly if its row applies
  pub given : (n i : ℕ) → (plan_refusal m xs ≡ refusal n i) ↔ Given m xs n i
  given n i = (λ e. rw e at says, λ g. gives m xs g)

  -- so no two rows apply
  pub only : {n n' i i' : ℕ} → Given m xs n i → Given m xs n' i' → (n ≡ n') × (i ≡ i')
  only {n} {n'} {i} {i'} g g' =
      let e : refusal n i ≡ refusal n' i' = cc (gives m xs g, gives m xs g') in
      (ap (λ (r : Refusal). r.no) e, ap (λ (r : Refusal). r.named) e)

  -- 1: core count 0 or above 16
  pub exactly_1 : ((plan_refusal m xs).no ≡ 1) ↔ CoresOut m
  exactly_1 = (λ e. of (rw e at says), λ o. gives_no m xs (one o))
    where
      of : {i : ℕ} → Given m xs 1 i → CoresOut m
      of (one o) = o

  -- 2: table empty, over 64 tasks, or ending inside a task
  pub exactly_2 : ((plan_refusal m xs).no ≡ 2) ↔ (CoresIn m × TableOut xs)
  exactly_2 = (λ e. of (rw e at says), λ p. gives_no m xs (two p.0 p.1))
    where
      of : {i : ℕ} → Given m xs 2 i → CoresIn m × TableOut xs
      of (two c o) = (c, o)

  -- 3, naming task k + 1: it has cost 0, period 0 or a period above the limit, and is the first faulty task
  pub exactly_3 : (k : ℕ) → (plan_refusal m xs ≡ refusal 3 (suc k)) ↔ (Reached m xs k × RangeOut xs k)
  exactly_3 k = (λ e. of ((given 3 (suc k)).0 e), λ p. gives m xs (three p.0 p.1))
    where
      of : Given m xs 3 (suc k) → Reached m xs k × RangeOut xs k
      of (three r o) = (r, o)

  -- 4, naming task k + 1: its cost exceeds its period, and it is the first faulty task
  pub exactly_4 : (k : ℕ) → (plan_refusal m xs ≡ refusal 4 (suc k)) ↔ (Reached m xs k × RangeIn xs k × CostOver xs k)
  exactly_4 k = (λ e. of ((given 4 (suc k)).0 e), λ p. gives m xs (four p.0 p.1 p.2))
    where
      of : Given m xs 4 (suc k) → Reached m xs k × RangeIn xs k × CostOver xs k
      of (four r i c) = (r, i, c)

  -- 5, naming task i: it is the first whose period takes the common period of the tasks so far over the limit
  pub exactly_5 : (i : ℕ) → (plan_refusal m xs ≡ refusal 5 i) ↔ (Tested m xs × TakesOver (periods xs) i)
  exactly_5 i = (λ e. of ((given 5 i).0 e), λ p. gives m xs (five p.0 p.1))
    where
      of : Given m xs 5 i → Tested m xs × TakesOver (periods xs) i
      of (five t f) = (t, f)

  -- 5: the common period exceeds its limit
  pub exactly_5_any : ((plan_refusal m xs).no ≡ 5) ↔ (Tested m xs × PeriodOut xs)
  exactly_5_any = (λ e. of (rw e at says), λ p. gives_no m xs (back p.0 p.1).1)
    where
      of : {i : ℕ} → Given m xs 5 i → Tested m xs × PeriodOut xs
      of (five {i} t f) = (t, over_large (periods xs) (periods_some xs t.ranges) i (over_period (periods xs) i f))

      back : Tested m xs → PeriodOut xs → (i : ℕ) × Given m xs 5 i
      back t h =
          let o = large_over (periods xs) (periods_some xs t.ranges) h in
          (o.0, five t (period_over (periods xs) o.0 o.1))

  -- 6: the weights sum to more than M × L
  pub exactly_6 : ((plan_refusal m xs).no ≡ 6) ↔ (Tested m xs × PeriodIn xs × Overfull m xs)
  exactly_6 = (λ e. of (rw e at says), λ p. gives_no m xs (six p.0 p.1 p.2))
    where
      of : {i : ℕ} → Given m xs 6 i → Tested m xs × PeriodIn xs × Overfull m xs
      of (six t p h) = (t, p, h)

  -- no other number is given
  pub numbers : (plan_refusal m xs).no ≤ 6
  numbers = of says
    where
      of : {n i : ℕ} → Given m xs n i → n ≤ 6
      of (none t) = omega arith
      of (one o) = omega arith
      of (two c o) = omega arith
      of (three r o) = omega arith
      of (four r i c) = omega arith
      of (five t f) = omega arith
      of (six t p h) = omega arith

  -- 3, 4 and 5 name a task of the table
  pub named : 3 ≤ (plan_refusal m xs).no → (plan_refusal m xs).no ≤ 5 → (1 ≤ (plan_refusal m xs).named) × ((plan_refusal m xs).named ≤ tasks xs)
  named = of says
    where
      of : {n i : ℕ} → Given m xs n i → 3 ≤ n → n ≤ 5 → (1 ≤ i) × (i ≤ tasks xs)
      of (none t) a b = absurd (omega arith)
      of (one o) a b = absurd (omega arith)
      of (two c o) a b = absurd (omega arith)
      of (three r o) a b = (omega arith, omega (arith, r.there))
      of (four r i c) a b = (omega arith, omega (arith, r.there))
      of (five t f) a b = (f.from, omega (arith, f.to, periods_length xs))
      of (six t p h) a b = absurd (omega arith)

  -- the others name task 0
  pub unnamed : ((plan_refusal m xs).no < 3) ⊎ (5 < (plan_refusal m xs).no) → (plan_refusal m xs).named ≡ 0
  unnamed = of says
    where
      of : {n i : ℕ} → Given m xs n i → (n < 3) ⊎ (5 < n) → i ≡ 0
      of (none t) o = refl
      of (one p) o = refl
      of (two c p) o = refl
      of (three r p) o = absurd (⊎_elim (λ h. omega arith) (λ h. omega arith) o)
      of (four r i c) o = absurd (⊎_elim (λ h. omega arith) (λ h. omega arith) o)
      of (five t f) o = absurd (⊎_elim (λ h. omega arith) (λ h. omega arith) o)
      of (six t p h) o = refl
