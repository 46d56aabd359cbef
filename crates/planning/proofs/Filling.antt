-- The tasks' lines filled in one by one.
use Prim.Native.Nat.{ℕ, zero, suc, ◌+◌, ◌*◌, ◌/◌, ◌≤◌, ◌<◌}
use mathlib.Core.Path.{◌≡◌, refl, ap, ap₂, ◌∙◌}
use mathlib.Core.List.{List, [], ◌∷◌}
use native.Mathlib.Omega.{arith}
use native.Mathlib.Numerals.{add-one}
use lib.ListN.{length, get_or, drop, set, replicate}
use lib.Seq.{drop-cons}
use Rattle.units.specs.Limits.{tasks_limit}
use Rattle.units.specs.Units.{share, duration, nums, units}
use Rattle.units.specs.declared.share.Share.{Share}
use Rattle.units.proofs.Units.{nums_at, units_nums}
use Rattle.lists.proofs.Pairs.{pair_drop, pair_end}
use Rattle.lists.proofs.Filled.{Filled, empty, next, full}
use Rattle.assignment.specs.Passes.{rows_of}
use Rattle.assignment.specs.declared.Row.{Row}
use Rattle.planning.specs.declared.Line.{Line}
use Rattle.planning.specs.Plan.{line, empty_line, lines_of, padded_lines}

-- after k tasks: the first k lines stand, the others are empty
abbrev pub Filling : List ℕ → List ℕ → List (List ℕ) → List Line → ℕ → Type 0
Filling xs ws rows lns k = Filled empty_line tasks_limit (lines_of xs ws rows) lns (lines_of (drop (2 * k) xs) (drop k ws) (drop k rows)) k

pub start : (xs ws : List ℕ) (rows : List (List ℕ)) → Filling xs ws rows (replicate tasks_limit empty_line) 0
start xs ws rows = empty empty_line tasks_limit (lines_of xs ws rows)

pub step : (xs ws : List ℕ) (rows : List (List ℕ)) (lns : List Line) (k : ℕ) → Filling xs ws rows lns k
    → 2 * k + 1 < length xs → k < length ws → k < length rows → k < tasks_limit
    → Filling xs ws rows (set lns k (line (get_or xs (2 * k) 0) (get_or xs (2 * k + 1) 0) (get_or ws k 0) (get_or rows k []))) (k + 1)
step xs ws rows lns k f h a b m =
    let here : lines_of (drop (2 * k) xs) (drop k ws) (drop k rows)
    ≡ line (get_or xs (2 * k) 0) (get_or xs (2 * k + 1) 0) (get_or ws k 0) (get_or rows k []) ∷ lines_of (drop (2 * (k + 1)) xs) (drop (k + 1) ws)
    (drop (k + 1) rows) =
    rw (pair_drop xs k h, drop-cons ws k 0 a, drop-cons rows k [] b, ← (add-one k)) in
    next empty_line tasks_limit (lines_of xs ws rows) lns (lines_of (drop (2 * (k + 1)) xs) (drop (k + 1) ws) (drop (k + 1) rows)) k
    (line (get_or xs (2 * k) 0) (get_or xs (2 * k + 1) 0) (get_or ws k 0) (get_or rows k [])) (rw here at f) m

lines_short : (ys ws : List ℕ) (rows : List (List ℕ)) → length ys < 2 → lines_of ys ws rows ≡ []
lines_short [] ws rows h = refl
lines_short (x ∷ []) ws rows h = refl
lines_short (x ∷ y ∷ ys) ws rows h = absurd (omega arith)

pub finish : (xs ws : List ℕ) (rows : List (List ℕ)) (lns : List Line) (k : ℕ) → Filling xs ws rows lns k
    → length xs / 2 ≤ k → k ≤ tasks_limit → lns ≡ padded_lines (lines_of xs ws rows)
finish xs ws rows lns k f h m =
    full empty_line tasks_limit (lines_of xs ws rows) lns (lines_of (drop (2 * k) xs) (drop k ws) (drop k rows)) k f
    (lines_short (drop (2 * k) xs) (drop k ws) (drop k rows) (pair_end xs k h)) m

pub rows_length : (rows : List Row) → length (rows_of rows) ≡ length rows
rows_length [] = refl
rows_length (r ∷ rows) = ap suc (rows_length rows)

rows_at : (rows : List Row) (k : ℕ) → get_or (rows_of rows) k [] ≡ nums (get_or rows k (record { shares = [] })).shares
rows_at [] k = refl
rows_at (r ∷ rows) zero = refl
rows_at (r ∷ rows) (suc k) = rows_at rows k

-- a task's line, from the arrays of weights and of rows
pub line_at : (c t : ℕ) (ws : List Share) (rows : List Row) (k : ℕ)
    → line c t (get_or (nums ws) k 0) (get_or (rows_of rows) k [])
    ≡ record { cost = duration c; period = duration t; weight = get_or ws k (share 0); shares = (get_or rows k (record { shares = [] })).shares }
line_at c t ws rows k =
    ap₂ (λ (w : Share) (ss : List Share). record { cost = duration c; period = duration t; weight = w; shares = ss })
    (ap share (nums_at ws k))
    (ap units (rows_at rows k) ∙ units_nums (get_or rows k (record { shares = [] })).shares)
