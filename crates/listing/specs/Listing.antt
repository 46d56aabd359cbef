-- The listing of a plan, document 01, "Listing and text". Tasks and cores are numbered from 1.
use Rattle.std.specs.Prelude.{ℕ, zero, suc, cond, List, [], ◌∷◌, ◌++◌, eqb, ℤ, pos, get_or}
use Rattle.writing.specs.Ascii.{ascii}
use Rattle.writing.specs.Decimal.{signed_of}
use Rattle.writing.specs.Field.{field, line_end}
use Rattle.task_shares.specs.Movers.{moves}
use Rattle.planning.specs.declared.Line.{Line}
use Rattle.planning.specs.declared.Plan.{Plan}
use Rattle.planning.specs.Plan.{no_line, row_of}
use Rattle.lateness.specs.Lateness.{lates_of}

-- a core's share, ` 1:5`; only positive ones are listed
abbrev pub share_text : ℕ → ℕ → List ℕ
share_text p s = cond (eqb s 0) [] (field " " p ++ field ":" s)

-- the shares of a row, from core p on
abbrev pub shares_text : ℕ → List ℕ → List ℕ
shares_text p [] = []
shares_text p (s ∷ ss) = share_text p s ++ shares_text (suc p) ss

-- a task's number, cost, period and weight: `task 1 cost 5 period 6 weight 5`
unfoldable pub head_text : ℕ → Line → List ℕ
head_text i ln = field "task " i ++ field " cost " ln.cost.0 ++ field " period " ln.period.0 ++ field " weight " ln.weight.0

-- whether a task moves, and its shares: ` fixed 1:5`
unfoldable pub row_text : List ℕ → List ℕ
row_text row = cond (moves row) (ascii " moves") (ascii " fixed") ++ shares_text 1 row

-- a task's bound and the end of its line: ` late 6`
unfoldable pub late_text : ℤ → List ℕ
late_text late = ascii " late " ++ signed_of late ++ line_end

-- a task's line: `task 1 cost 5 period 6 weight 5 fixed 1:5 late 6`
unfoldable pub task_text : ℕ → Line → ℤ → List ℕ
task_text i ln late = head_text i ln ++ row_text (row_of ln) ++ late_text late

-- the lines of the first n tasks, with their bounds
unfoldable pub tasks_text : List Line → List ℤ → ℕ → List ℕ
tasks_text ls lates zero = []
tasks_text ls lates (suc n) = tasks_text ls lates n ++ task_text (suc n) (get_or ls n no_line) (get_or lates n (pos 0))

-- the first line: `cores 4 common 6`
abbrev pub first_text : ℕ → ℕ → List ℕ
first_text m l = field "cores " m ++ field " common " l ++ line_end

-- the whole listing: the first line, then a line for each task
unfoldable pub listing_text : Plan → List ℕ
listing_text pl = first_text pl.cores pl.common ++ tasks_text pl.lines (lates_of pl) pl.count
