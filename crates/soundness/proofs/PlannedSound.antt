-- The plan of a table that is taken is sound.
use Prim.Native.Nat.{ℕ, ◌/◌, ◌≤◌, ◌<◌}
use mathlib.Core.Path.{◌≡◌, refl, sym, ap, ◌∙◌, subst⁻¹}
use mathlib.Core.Bool.{true, not, ◌&&◌, ◌||◌}
use mathlib.Core.List.{List, [], map}
use native.Mathlib.Omega.{arith}
use lib.Dec.{ltb, leb, eqb}
use lib.ListN.{length, get_or, take, length-map, get_or-map}
use lib.Seq.{ext_get_or, get_or-take, length-take-le}
use borrow.Author.Tests.{ltb-true, ltb-false, le-leb, eq-eqb, eqb-true}
use Rattle.units.specs.Limits.{cores_limit, tasks_limit, period_limit, common_limit}
use Rattle.units.proofs.Units.{nums_units}
use Rattle.lists.specs.Lists.{total}
use Rattle.lists.specs.Rows.{how_many, column, top}
use Rattle.lists.specs.Below.{all_below}
use Rattle.lists.proofs.Tests.{by_cases, and_true, or_left, or_right}
use Rattle.lists.proofs.Below.{all_from}
use Rattle.arith.specs.Period.{periods, common}
use Rattle.arith.proofs.Table.{periods_at, periods_length}
use Rattle.admission.specs.Weight.{weight, padded}
use Rattle.admission.specs.Admission.{plan_refusal}
use Rattle.admission.specs.Words.{common_of, weights_of, cost, period, tasks}
use Rattle.admission.specs.Given.{Taken}
use Rattle.admission.proofs.Exactly.{exactly_taken}
use Rattle.admission.proofs.Padded.{padded_at}
use Rattle.admission.proofs.TakenWeights.{weights_at}
use Rattle.task_shares.specs.Movers.{moves_on, fixed_on, lower}
use Rattle.assignment.specs.Passes.{shares_of, rooms}
use Rattle.assignment.specs.Structure.{CoreKept}
use Rattle.planning.specs.declared.Line.{Line}
use Rattle.planning.specs.declared.Plan.{Plan}
use Rattle.planning.specs.Plan.{line, empty_line, no_line, lines_of, padded_lines, plan_for, plan_of, shares_table}
use Rattle.planning.specs.Kept.{PlanKept}
use Rattle.assignment.proofs.Placed.{placed_length}
use Rattle.assignment.proofs.Properties.{kept}
use Rattle.soundness.specs.Rules.{numbers_in, line_empty, common_is, core_within, few_movers, one_first, guarded}
use Rattle.soundness.specs.Plan.{line_sound, line_ok, core_sound, plan_sound}
use Rattle.soundness.proofs.PlannedLines.{long, task_line_lem, empty_line_lem}
use Rattle.soundness.proofs.Keeps.{Fits, keeps}
use Rattle.soundness.proofs.Taken.{taken_fits, taken_plan_lem}

-- the rules for a core, from the structure of the shares
core_rules : (pl : Plan) → PlanKept pl → (p : ℕ) → core_sound pl p ≡ true
core_rules pl k p =
    let tab = shares_table pl in
    let c : CoreKept pl.common p tab = kept k.structure p in
    let within = leb (column p tab) pl.common in
    let there = ltb p pl.cores || eqb (column p tab) 0 in
    let a : core_within pl.cores pl.common tab p ≡ true =
    and_true within there (le-leb (column p tab) pl.common c.within)
    (by_cases (ltb p pl.cores)
    (λ e. or_left (ltb p pl.cores) (eqb (column p tab) 0) e)
    (λ e. or_right (ltb p pl.cores) (eqb (column p tab) 0) (eq-eqb (column p tab) 0 (k.structure.beyond p (ltb-false p pl.cores e))))) in
    let b : few_movers tab p ≡ true = le-leb (how_many (moves_on p) tab) 2 c.few in
    let d : one_first tab p ≡ true =
    by_cases (eqb (how_many (moves_on p) tab) 2)
    (λ e. or_right (not (eqb (how_many (moves_on p) tab) 2)) (eqb (how_many (lower p) tab) 1)
    (eq-eqb (how_many (lower p) tab) 1 (c.first (eqb-true (how_many (moves_on p) tab) 2 e))))
    (λ e. or_left (not (eqb (how_many (moves_on p) tab) 2)) (eqb (how_many (lower p) tab) 1) (ap not e)) in
    let g : guarded tab p ≡ true = le-leb (top (moves_on p) tab) (top (fixed_on p) tab) c.guarded in
    and_true (core_within pl.cores pl.common tab p && few_movers tab p && one_first tab p) (guarded tab p)
    (and_true (core_within pl.cores pl.common tab p && few_movers tab p) (one_first tab p)
    (and_true (core_within pl.cores pl.common tab p) (few_movers tab p) a b) d) g

module _ (m : ℕ) (xs : List ℕ) (t : Taken m xs) where
  abbrev l : ℕ
  l = common_of xs

  abbrev ws : List ℕ
  ws = padded (weights_of xs)

  abbrev rows : List (List ℕ)
  rows = shares_of ws (rooms m l)

  abbrev lns : List Line
  lns = padded_lines (lines_of xs ws rows)

  fits : Fits m (common_of xs) xs (padded (weights_of xs))
  fits = taken_fits m xs t

  rows_long : length (shares_of (padded (weights_of xs)) (rooms m (common_of xs))) ≡ tasks_limit
  rows_long = placed_length m l ws ∙ fits.weighed

  at : (i : ℕ) → i < tasks xs → get_or lns i no_line ≡ line (cost xs i) (period xs i) (get_or ws i 0) (get_or rows i [])
  at i h = task_line_lem xs ws rows fits.tasks_few fits.weighed rows_long i h

  -- cores, tasks and the common period
  numbers_in_lem : numbers_in (plan_for m (common_of xs) (padded (weights_of xs)) xs) ≡ true
  unfolding plan_for
  numbers_in_lem =
      let some : 1 ≤ length xs / 2 = omega (arith, t.table.0, t.table.2) in
      rw (
        le-leb 1 m fits.cores_some,
        le-leb m cores_limit fits.cores_few,
        le-leb 1 (length xs / 2) some,
        le-leb (length xs / 2) tasks_limit (omega (arith, fits.tasks_few)),
        le-leb 1 l fits.common_some,
        le-leb l common_limit fits.common_small,
      )

  -- the shares of a task sum to its weight
  sums : (i : ℕ) → i < tasks xs → total (get_or rows i []) ≡ get_or ws i 0
  unfolding plan_for
  sums i h =
      let k : PlanKept (plan_for m l ws xs) = keeps m l xs ws fits in
      sym (get_or-map total rows i []) ∙ ap (λ (ys : List ℕ). get_or ys i 0)
      (Rattle.assignment.proofs.Placed.placed m l ws fits.cores_some fits.cores_few fits.each fits.all).sums

  -- the line of a task in use
  task_rule : (i : ℕ) → i < tasks xs → line_sound (common_of xs)
      (line (cost xs i) (period xs i) (get_or (padded (weights_of xs)) i 0) (get_or (shares_of (padded (weights_of xs)) (rooms m (common_of xs))) i [])) ≡ true
  task_rule i h =
      let c = cost xs i in
      let p = period xs i in
      let w = get_or ws i 0 in
      let r = get_or rows i [] in
      let is : w ≡ weight l c p = padded_at (weights_of xs) i ∙ weights_at l xs i h in
      rw (
        le-leb 1 c (t.ranges i h).0,
        le-leb c p (t.costs i h),
        le-leb p period_limit (t.ranges i h).2,
        eq-eqb w (weight l c p) is,
        nums_units r,
        eq-eqb (total r) w (sums i h),
      )

  line_rules : (i : ℕ) → i < tasks_limit → line_ok (plan_for m (common_of xs) (padded (weights_of xs)) xs) i ≡ true
  unfolding plan_for empty_line
  line_rules i h =
      by_cases (ltb i (length xs / 2))
      (λ e. rw e (subst⁻¹ (λ (ln : Line). line_sound l ln ≡ true) (at i (ltb-true i (length xs / 2) e)) (task_rule i (ltb-true i (length xs / 2) e))))
      (λ e. rw e (subst⁻¹ (λ (ln : Line). line_empty ln ≡ true)
      (empty_line_lem xs ws rows fits.tasks_few fits.weighed rows_long i (ltb-false i (length xs / 2) e) h) refl))

  -- the periods of the plan are those of the table
  periods_back : map (λ (ln : Line). ln.period.0)
      (take (length xs / 2) (padded_lines (lines_of xs (padded (weights_of xs)) (shares_of (padded (weights_of xs)) (rooms m (common_of xs)))))) ≡ periods xs
  periods_back =
      let f : Line → ℕ = λ (ln : Line). ln.period.0 in
      let n : length (take (length xs / 2) lns) ≡ length xs / 2 = length-take-le (length xs / 2) lns
      (omega (arith, long xs ws rows fits.tasks_few fits.weighed rows_long, fits.tasks_few)) in
      ext_get_or 0 (map f (take (length xs / 2) lns)) (periods xs) (length-map (take (length xs / 2) lns) f ∙ n ∙ sym (periods_length xs))
      (λ i h.
      let k : i < length xs / 2 = omega (arith, length-map (take (length xs / 2) lns) f, n) in
      get_or-map f (take (length xs / 2) lns) i no_line ∙ ap f (get_or-take (length xs / 2) lns i no_line k ∙ at i k) ∙ sym (periods_at xs i))

  common_is_lem : common_is (plan_for m (common_of xs) (padded (weights_of xs)) xs) ≡ true
  unfolding plan_for
  common_is_lem = eq-eqb l (common (map (λ (ln : Line). ln.period.0) (take (length xs / 2) lns))) (ap common (sym periods_back))

  pub sound_plan : plan_sound (plan_for m (common_of xs) (padded (weights_of xs)) xs) ≡ true
  unfolding plan_sound
  sound_plan =
      let pl = plan_for m l ws xs in
      and_true (numbers_in pl && all_below tasks_limit (line_ok pl) && common_is pl) (all_below cores_limit (core_sound pl))
      (and_true (numbers_in pl && all_below tasks_limit (line_ok pl)) (common_is pl)
      (and_true (numbers_in pl) (all_below tasks_limit (line_ok pl)) numbers_in_lem (all_from tasks_limit (line_ok pl) line_rules)) common_is_lem)
      (all_from cores_limit (core_sound pl) (λ p h. core_rules pl (keeps m l xs ws fits) p))

-- so the plan that planning answers is sound
pub plan_sound_lem : (m : ℕ) (xs : List ℕ) → (plan_refusal m xs).no ≡ 0 → plan_sound (plan_of m xs).plan ≡ true
plan_sound_lem m xs e = subst⁻¹ (λ (pl : Plan). plan_sound pl ≡ true) (taken_plan_lem m xs e) (sound_plan m xs ((exactly_taken m xs).0 e))
