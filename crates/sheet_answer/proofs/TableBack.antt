-- The table of a plan is the table that was planned.
use Prim.Native.Nat.{ℕ, ◌-◌, ◌/◌, ◌%◌, ◌≤◌}
use mathlib.Core.Path.{◌≡◌, refl, sym, ap, ◌∙◌}
use mathlib.Core.List.{List, [], ◌∷◌, ◌++◌}
use native.Mathlib.Omega.{arith}
use lib.ListN.{length, take, replicate}
use lib.Seq.{take_at}
use Rattle.units.specs.Limits.{tasks_limit}
use Rattle.admission.specs.Weight.{padded}
use Rattle.admission.specs.Admission.{plan_refusal}
use Rattle.admission.specs.Words.{common_of, weights_of}
use Rattle.admission.proofs.Exactly.{exactly_taken}
use Rattle.assignment.specs.Passes.{shares_of, rooms}
use Rattle.assignment.proofs.Placed.{placed_length}
use Rattle.planning.specs.Plan.{empty_line, lines_of, plan_for, plan_of}
use Rattle.soundness.proofs.Taken.{taken_fits, taken_plan_lem}
use Rattle.sheet_answer.specs.Answers.{numbers_of, table_in}

-- the lines of a whole table have its numbers, and there are as many as tasks
numbers_back : (xs ws : List ℕ) (rows : List (List ℕ)) → length xs % 2 ≡ 0 → length xs / 2 ≤ length ws → length xs / 2 ≤ length rows
    → (numbers_of (lines_of xs ws rows) ≡ xs) × (length (lines_of xs ws rows) ≡ length xs / 2)
numbers_back [] ws rows e h k = (refl, omega arith)
numbers_back (c ∷ []) ws rows e h k = absurd (omega (arith, e))
numbers_back (c ∷ t ∷ xs) [] rows e h k = absurd (omega (arith, h))
numbers_back (c ∷ t ∷ xs) (w ∷ ws) [] e h k = absurd (omega (arith, k))
numbers_back (c ∷ t ∷ xs) (w ∷ ws) (r ∷ rows) e h k =
    let b = numbers_back xs ws rows (omega (arith, e)) (omega (arith, h)) (omega (arith, k)) in
    (ap (λ (l : List ℕ). c ∷ t ∷ l) b.0, omega (arith, b.1))

module _ (m : ℕ) (xs : List ℕ) (t : (plan_refusal m xs).no ≡ 0) where
  -- the table of a plan
  pub table_back : table_in (plan_of m xs).plan ≡ xs
  unfolding plan_for
  table_back =
      let g = (exactly_taken m xs).0 t in
      let ws = padded (weights_of xs) in
      let rows = shares_of ws (rooms m (common_of xs)) in
      let f = taken_fits m xs g in
      let long : length rows ≡ tasks_limit = placed_length m (common_of xs) ws ∙ f.weighed in
      let b = numbers_back xs ws rows g.table.2 (omega (arith, f.weighed, f.tasks_few)) (omega (arith, long, f.tasks_few)) in
      let ls = lines_of xs ws rows in
      let rest = replicate (tasks_limit - length ls) empty_line in
      rw (taken_plan_lem m xs t) (ap numbers_of (ap (λ (n : ℕ). take n (ls ++ rest)) (sym b.1) ∙ take_at ls rest (length ls) refl) ∙ b.0)

  -- and its core count
  pub cores_back : (plan_of m xs).plan.cores ≡ m
  unfolding plan_for
  cores_back = rw (taken_plan_lem m xs t) refl
