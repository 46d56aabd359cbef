-- The program's text as document 01 writes it, "Listing and text": one line with M, then a line `C T` for each task.
use Rattle.std.specs.Prelude.{ℕ, ◌+◌, ◌/◌, ◌%◌, ◌≤◌, ◌<◌, ◌≡◌, ◌⊎◌, List, [], ◌∷◌, ◌++◌, length, get_or}
use Rattle.writing.specs.Ascii.{blank, newline}
use Rattle.writing.specs.Decimal.{decimal_of}
use Rattle.table_text.specs.Text.{Said, says, unreadable}

-- below 2^32
abbrev pub Small : ℕ → Type 0
Small n = n < 4294967296

-- the line `M`: the number in decimal, ended by a newline
abbrev pub cores_written : ℕ → List ℕ
cores_written m = decimal_of m ++ newline ∷ []

-- the line `C T`: two numbers in decimal, one blank between, ended by a newline
abbrev pub task_written : ℕ → ℕ → List ℕ
task_written c t = decimal_of c ++ blank ∷ decimal_of t ++ newline ∷ []

-- a line for each task of a table, cost then period
abbrev pub tasks_written : List ℕ → List ℕ
tasks_written [] = []
tasks_written (c ∷ []) = []
tasks_written (c ∷ t ∷ xs) = task_written c t ++ tasks_written xs

-- whole tasks, each number below 2^32
abbrev pub Tasks : List ℕ → Type 0
Tasks xs = (length xs % 2 ≡ 0) × ((i : ℕ) → i < length xs → Small (get_or xs i 0))

-- a text is the line of m, those of the tasks xs, and the rest
pub record Starts (s : List ℕ) (m : ℕ) (xs rest : List ℕ) : Type 0 where
  pub cores : Small m
  pub tasks : Tasks xs
  pub lines : s ≡ cores_written m ++ tasks_written xs ++ rest

-- a text of at most 4,096 bytes that is not empty
abbrev pub LengthIn : List ℕ → Type 0
LengthIn s = (0 < length s) × (length s ≤ 4096)

-- one that is empty or too long
abbrev pub LengthOut : List ℕ → Type 0
LengthOut s = (length s ≡ 0) ⊎ (4096 < length s)

-- a text starts with no line `M`
abbrev pub NoCores : List ℕ → Type 0
NoCores s = (m : ℕ) (rest : List ℕ) → Small m → s ≡ cores_written m ++ rest → ⊥

-- a text starts with no line `C T`
abbrev pub NoTask : List ℕ → Type 0
NoTask s = (c t : ℕ) (rest : List ℕ) → Small c → Small t → s ≡ task_written c t ++ rest → ⊥

-- a text says a core count and a table exactly if it is their lines; else the first line that is not of that form is named, 0 where its length is out of range
pub data Says (s : List ℕ) : Said → Type 0 where
  table : {m : ℕ} {xs : List ℕ} → LengthIn s → Starts s m xs [] → Says s (says m xs)
  length_out : LengthOut s → Says s (unreadable 0)
  first_line : LengthIn s → NoCores s → Says s (unreadable 1)
  later_line : {m : ℕ} {xs rest : List ℕ} → LengthIn s → Starts s m xs rest → 0 < length rest → NoTask rest → Says s (unreadable (length xs / 2 + 2))
