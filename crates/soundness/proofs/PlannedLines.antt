-- The lines of a plan, read back: its table of shares and its weights are those that it was made from.
use Prim.Native.Nat.{ℕ, zero, suc, ◌+◌, ◌*◌, ◌-◌, ◌/◌, ◌≤◌, ◌<◌}
use mathlib.Core.Path.{◌≡◌, refl, sym, ap, ◌∙◌}
use mathlib.Core.List.{List, [], ◌∷◌, map}
use native.Mathlib.Omega.{arith}
use lib.Dec.{ltb}
use lib.ListN.{length, get_or, replicate, length-map, length-append, length-replicate, get_or-replicate, get_or-map, get_or-append}
use lib.Seq.{ext_get_or, get_or-append-add}
use borrow.Author.Tests.{ltb-true, ltb-false}
use Rattle.units.specs.Limits.{cores_limit, tasks_limit}
use Rattle.units.proofs.Units.{nums_units}
use Rattle.lists.specs.Lists.{zeros, total}
use Rattle.lists.proofs.Tests.{by_cases}
use Rattle.planning.specs.declared.Line.{Line}
use Rattle.planning.specs.Plan.{line, empty_line, no_line, lines_of, padded_lines, row_of}

-- as many lines as tasks
lines_length : (xs ws : List ℕ) (rows : List (List ℕ)) → length xs / 2 ≤ length ws → length xs / 2 ≤ length rows → length (lines_of xs ws rows) ≡ length xs / 2
lines_length [] ws rows h k = refl
lines_length (c ∷ []) ws rows h k = refl
lines_length (c ∷ t ∷ xs) [] rows h k = absurd (omega arith)
lines_length (c ∷ t ∷ xs) (w ∷ ws) [] h k = absurd (omega arith)
lines_length (c ∷ t ∷ xs) (w ∷ ws) (r ∷ rows) h k = omega (arith, lines_length xs ws rows (omega arith) (omega arith))

-- a task's line
line_at : (xs ws : List ℕ) (rows : List (List ℕ)) (i : ℕ) → length xs / 2 ≤ length ws → length xs / 2 ≤ length rows → i < length xs / 2
    → get_or (lines_of xs ws rows) i no_line ≡ line (get_or xs (2 * i) 0) (get_or xs (2 * i + 1) 0) (get_or ws i 0) (get_or rows i [])
line_at [] ws rows i h k l = absurd (omega arith)
line_at (c ∷ []) ws rows i h k l = absurd (omega arith)
line_at (c ∷ t ∷ xs) [] rows i h k l = absurd (omega arith)
line_at (c ∷ t ∷ xs) (w ∷ ws) [] i h k l = absurd (omega arith)
line_at (c ∷ t ∷ xs) (w ∷ ws) (r ∷ rows) zero h k l = refl
line_at (c ∷ t ∷ xs) (w ∷ ws) (r ∷ rows) (suc i) h k l =
    let a : 2 * suc i ≡ suc (suc (2 * i)) = omega arith in
    let b : 2 * suc i + 1 ≡ suc (suc (2 * i + 1)) = omega arith in
    rw (b, a) (line_at xs ws rows i (omega arith) (omega arith) (omega arith))

-- a row without a share is a row of zeros
pub zero_row : (r : List ℕ) → total r ≡ 0 → r ≡ zeros (length r)
zero_row [] e = refl
zero_row (zero ∷ r) e = ap (λ (ys : List ℕ). 0 ∷ ys) (zero_row r (omega arith))
zero_row (suc x ∷ r) e = absurd (omega arith)

-- a table of at most sixty-four tasks, with sixty-four weights and rows
module _ (xs ws : List ℕ) (rows : List (List ℕ)) (few : length xs ≤ 2 * tasks_limit) (a : length ws ≡ tasks_limit) (b : length rows ≡ tasks_limit) where
  abbrev lns : List Line
  lns = padded_lines (lines_of xs ws rows)

  count_is : length (lines_of xs ws rows) ≡ length xs / 2
  count_is = lines_length xs ws rows (omega arith) (omega arith)

  pub long : length (padded_lines (lines_of xs ws rows)) ≡ tasks_limit
  long = omega (
    arith,
    length-append (lines_of xs ws rows) (replicate (tasks_limit - length (lines_of xs ws rows)) empty_line),
    length-replicate
        (tasks_limit - length (lines_of xs ws rows)) empty_line,
    count_is,
  )

  -- the lines of the tasks
  pub task_line_lem : (i : ℕ) → i < length xs / 2
      → get_or (padded_lines (lines_of xs ws rows)) i no_line ≡ line (get_or xs (2 * i) 0) (get_or xs (2 * i + 1) 0) (get_or ws i 0) (get_or rows i [])
  task_line_lem i h =
      get_or-append (lines_of xs ws rows) (replicate (tasks_limit - length (lines_of xs ws rows)) empty_line) no_line i (omega (arith, count_is))
      ∙ line_at xs ws rows i (omega arith) (omega arith) h

  -- the others are empty
  pub empty_line_lem : (i : ℕ) → length xs / 2 ≤ i → i < tasks_limit → get_or (padded_lines (lines_of xs ws rows)) i no_line ≡ empty_line
  empty_line_lem i h k =
      let n : ℕ = length (lines_of xs ws rows) in
      let e : i ≡ n + (i - n) = omega (arith, count_is) in
      ap (λ (j : ℕ). get_or (padded_lines (lines_of xs ws rows)) j no_line) e
      ∙ get_or-append-add (lines_of xs ws rows) (replicate (tasks_limit - n) empty_line) (i - n) no_line
      ∙ get_or-replicate (tasks_limit - n) (i - n) empty_line no_line (omega (arith, count_is))

  module _ (none : (i : ℕ) → length xs / 2 ≤ i → get_or ws i 0 ≡ 0) where
    -- the weights
    pub weights_back : map (λ (ln : Line). ln.weight.0) (padded_lines (lines_of xs ws rows)) ≡ ws
    unfolding empty_line
    weights_back =
        ext_get_or 0 (map (λ (ln : Line). ln.weight.0) lns) ws (length-map lns (λ (ln : Line). ln.weight.0) ∙ long ∙ sym a)
        (λ i h. get_or-map (λ (ln : Line). ln.weight.0) lns i no_line ∙
        by_cases (ltb i (length xs / 2))
        (λ e. ap (λ (ln : Line). ln.weight.0) (task_line_lem i (ltb-true i (length xs / 2) e)))
        (λ e. ap (λ (ln : Line). ln.weight.0)
        (empty_line_lem i (ltb-false i (length xs / 2) e) (omega (arith, length-map lns (λ (ln : Line). ln.weight.0), long))) ∙ sym
        (none i (ltb-false i (length xs / 2) e))))

    module _ (sums : map total rows ≡ ws) (wide : (i : ℕ) → i < tasks_limit → length (get_or rows i []) ≡ cores_limit) where
      -- the table of shares
      pub table_back : map row_of (padded_lines (lines_of xs ws rows)) ≡ rows
      unfolding empty_line
      table_back =
          ext_get_or [] (map row_of lns) rows (length-map lns row_of ∙ long ∙ sym b)
          (λ i h. get_or-map row_of lns i no_line ∙
          by_cases (ltb i (length xs / 2))
          (λ e. ap row_of (task_line_lem i (ltb-true i (length xs / 2) e)) ∙ nums_units (get_or rows i []))
          (λ e.
          let m : i < tasks_limit = omega (arith, length-map lns row_of, long) in
          let z : total (get_or rows i []) ≡ 0 = sym (get_or-map total rows i []) ∙ ap (λ (ys : List ℕ). get_or ys i 0) sums ∙ none i
          (ltb-false i (length xs / 2) e) in
          ap row_of (empty_line_lem i (ltb-false i (length xs / 2) e) m) ∙ sym (zero_row (get_or rows i []) z ∙ ap zeros (wide i m))))
