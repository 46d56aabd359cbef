-- What a text says, document 01: one line with M, then a line `C T` for each task, at most 4,096 bytes.
use Rattle.std.specs.Prelude.{Result, Ok, Err, Some, None, ℕ, zero, suc, cond, List, [], ◌∷◌, ltb, eqb, length}
use Rattle.units.specs.Refusals.{Refusal}
use Rattle.units.specs.Refusals.{refusal, taken, text_no}
use Rattle.writing.specs.Ascii.{newline}
use Rattle.scanning.specs.Line.{field_at, pair_at}
use Rattle.scanning.specs.Lines.{pair_end, unreadable_from}
use Rattle.scanning.specs.Number.{Number}
use Rattle.scanning.specs.Line.{Pair}
use Rattle.table_text.specs.declared.TableRead.{TableRead}

-- what is read of a text: a core count and how many numbers its table has, or the line that is named
abbrev pub Reading : Type 0
Reading = Result TableRead ℕ

abbrev pub read : ℕ → ℕ → TableRead
read m n = record { cores = m; count = n }

-- what a text says: a core count and the table's numbers, or nothing, and then a line is named
pub data Said : Type 0 where
  says : ℕ → List ℕ → Said
  unreadable : ℕ → Said

-- bytes of a text, at most
abbrev pub text_limit : ℕ
text_limit = 4096

-- 2^32, which each number is below
abbrev pub number_bound : ℕ
number_bound = 4294967296

-- the line `M`, the first of the text
abbrev pub cores_line : List ℕ → Number
cores_line s = field_at number_bound s newline 0

-- the line `C T` at a place
abbrev pub task_line : List ℕ → ℕ → Pair
task_line s at = pair_at number_bound s at

-- the place after it, and 0 where it cannot be read
abbrev pub task_end : List ℕ → ℕ → ℕ
task_end s at = pair_end (task_line s at)

-- the first unreadable line of a table that starts at a place with the text's second line, and 0 if there is none
abbrev pub bad_task : List ℕ → ℕ → ℕ
bad_task s at = unreadable_from (task_end s) (length s) (length s) 2 at

-- this line's cost, then its period, then the later lines' numbers
unfoldable pub then_later : (ℕ → List ℕ) → Pair → List ℕ
then_later later (Some (c, t, next)) = c ∷ t ∷ later next
then_later later None = []

-- the table's numbers from a place on, cost then period for each task; f is no less than the lines' number
unfoldable pub numbers_from : ℕ → List ℕ → ℕ → List ℕ
numbers_from zero s at = []
numbers_from (suc f) s at = cond (ltb at (length s)) (then_later (λ next. numbers_from f s next) (task_line s at)) []

-- a table of m cores, if each of its lines from a place on can be read
unfoldable pub table_from : List ℕ → ℕ → ℕ → Said
table_from s m at = cond (eqb (bad_task s at) 0) (says m (numbers_from (length s) s at)) (unreadable (bad_task s at))

-- the core count, then the table; the core count's line is the first
unfoldable pub after_cores : List ℕ → Number → Said
after_cores s (Some (m, at)) = table_from s m at
after_cores s None = unreadable 1

-- the whole text; line 0 is named where it is too long or empty, tested first, else the first unreadable line
unfoldable pub text_of : List ℕ → Said
text_of s =
    cond (ltb text_limit (length s))
    (unreadable 0)
    (cond (eqb (length s) 0) (unreadable 0) (after_cores s (cores_line s)))

-- the table's numbers, and none if the text is unreadable
unfoldable pub table_said : Said → List ℕ
table_said (says m xs) = xs
table_said (unreadable line) = []

-- the answer: the core count and how many numbers there are, or the line that is named
unfoldable pub answer_of : Said → Reading
answer_of (says m xs) = Ok (read m (length xs))
answer_of (unreadable line) = Err line

-- the refusal that an answer is: none, or 16, naming the line
abbrev pub reading_refusal : Reading → Refusal
reading_refusal (Ok r) = taken
reading_refusal (Err line) = refusal text_no line
