-- A sum over the movers of a core is the same by their lines and by their task numbers.
use Prim.Native.Nat.{ℕ, zero, suc, ◌+◌, ◌≤◌, ◌<◌}
use mathlib.Core.Path.{◌≡◌, refl, ◌∙◌, ap}
use mathlib.Core.Bool.{Bool, true, false}
use mathlib.Core.List.{List, [], ◌∷◌, map}
use native.Mathlib.Omega.{arith}
use lib.Dec.{eqb}
use lib.ListN.{length, get_or}
use borrow.Author.Tests.{eqb-true, eqb-false}
use Rattle.units.specs.Limits.{tasks_limit}
use Rattle.lists.specs.Lists.{val}
use Rattle.lists.specs.Rows.{how_many}
use Rattle.lists.proofs.Tests.{by_cases}
use Rattle.task_shares.specs.Movers.{moves_on}
use Rattle.planning.specs.declared.Line.{Line}
use Rattle.planning.specs.declared.Plan.{Plan}
use Rattle.planning.specs.Plan.{empty_line, no_line, row_of}
use Rattle.planning.specs.Kept.{PlanKept}
use Rattle.lateness.specs.Lateness.{over_movers}
use Rattle.lateness.specs.Words.{line_of, sum_of, sum_on}

-- the first task's number stands in front
sum_front : (n : ℕ) (g : ℕ → ℕ) → sum_of (suc n) g ≡ g 0 + sum_of n (λ j. g (suc j))
sum_front zero g = omega arith
sum_front (suc n) g = omega (arith, sum_front n g)

-- numbers that are the same have the same sum
sum_same : (n : ℕ) (f g : ℕ → ℕ) → ((j : ℕ) → f j ≡ g j) → sum_of n f ≡ sum_of n g
sum_same zero f g e = refl
sum_same (suc n) f g e = omega (arith, sum_same n f g e, e n)

-- numbers past a task that are 0 add nothing
sum_past : (a n : ℕ) (g : ℕ → ℕ) → a ≤ n → ((j : ℕ) → a ≤ j → j < n → g j ≡ 0) → sum_of n g ≡ sum_of a g
sum_past a zero g h z = let e : a ≡ 0 = omega arith in rw e
sum_past a (suc n) g h z =
    by_cases (eqb a (suc n))
    (λ e. rw (eqb-true a (suc n) e))
    (λ e.
    let low : a ≤ n = omega (arith, eqb-false a (suc n) e) in
    omega (arith, sum_past a n g low (λ j k l. z j k (omega arith)), z n low (omega arith)))

-- by lines and by task numbers
by_number : (p : ℕ) (g : Line → ℕ) (lns : List Line)
    → over_movers p g lns ≡ sum_of (length lns) (λ h. val (moves_on p (row_of (get_or lns h no_line))) (g (get_or lns h no_line)))
by_number p g [] = refl
by_number p g (ln ∷ lns) =
    omega (
      arith,
      by_number p g lns,
      sum_front (length lns) (λ h. val (moves_on p (row_of (get_or (ln ∷ lns) h no_line))) (g (get_or (ln ∷ lns) h no_line))),
    )

-- a number of a mover that is counted
same_val : (b : Bool) (x y : ℕ) → (b ≡ true → x ≡ y) → val b x ≡ val b y
same_val true x y e = e refl
same_val false x y e = refl

-- if no row passes a test, none does
pub none_pass : (f : List ℕ → Bool) (lns : List Line) → ((h : ℕ) → f (row_of (get_or lns h no_line)) ≡ false) → how_many f (map row_of lns) ≡ 0
none_pass f [] e = refl
none_pass f (ln ∷ lns) e = rw (e 0) (omega (arith, none_pass f lns (λ h. e (suc h))))

-- the empty line is no mover's
empty_moves : (p : ℕ) → moves_on p (row_of empty_line) ≡ false
unfolding empty_line
empty_moves p = refl

-- the movers' numbers of a plan, by their lines or by their task numbers
pub sum_on_lem : (pl : Plan) → PlanKept pl → length pl.lines ≡ tasks_limit → (p : ℕ) (g : Line → ℕ) (f : ℕ → ℕ)
    → ((h : ℕ) → moves_on p (row_of (line_of pl h)) ≡ true → g (line_of pl h) ≡ f h) → over_movers p g pl.lines ≡ sum_on pl p f
sum_on_lem pl k long p g f e =
    let b : ℕ → Bool = λ h. moves_on p (row_of (line_of pl h)) in
    by_number p g pl.lines
    ∙ ap (λ (n : ℕ). sum_of n (λ h. val (b h) (g (line_of pl h)))) long
    ∙ sum_same tasks_limit (λ h. val (b h) (g (line_of pl h))) (λ h. val (b h) (f h)) (λ h. same_val (b h) (g (line_of pl h)) (f h) (e h))
    ∙ sum_past pl.count tasks_limit (λ h. val (b h) (f h)) k.tasks_few
    (λ j h l. ap (λ (ln : Line). val (moves_on p (row_of ln)) (f j)) (k.past j h l) ∙ ap (λ (x : Bool). val x (f j)) (empty_moves p))
