-- What the programs `sheet` and `table` write for an input, document 02, R-1.
use Rattle.std.specs.Prelude.{ℕ, ◌+◌, cond, List, [], ◌∷◌, ◌++◌, eqb, take}
use Rattle.writing.specs.Ascii.{blank}
use Rattle.writing.specs.Field.{field, line_end}
use Rattle.writing.specs.Refused.{refusal_text}
use Rattle.name_list.specs.Names.{names_of}
use Rattle.planning.specs.declared.Line.{Line}
use Rattle.planning.specs.declared.Plan.{Plan}
use Rattle.table_text.specs.Grammar.{cores_written, tasks_written}
use Rattle.listing.specs.Listing.{listing_text}
use Rattle.sheet_reading.specs.Read.{Sheet}
use Rattle.sheet_answer.specs.Input.{input_sheet}

-- a line for each task's name, numbered from i: `name 1 cam`
abbrev pub name_lines : ℕ → List (List ℕ) → List ℕ
name_lines i [] = []
name_lines i (n ∷ ns) = (field "name " i ++ blank ∷ n) ++ line_end ++ name_lines (i + 1) ns

-- the names of a sheet that was read
abbrev pub sheet_names : Sheet → List (List ℕ)
sheet_names sh = names_of (take sh.length sh.names)

-- a sheet that is taken: the listing, unchanged, then `tick 1000`, then a name for each task
unfoldable pub named_listing : Sheet → List ℕ
named_listing sh = listing_text sh.plan ++ (field "tick " sh.tick ++ line_end) ++ name_lines 1 (sheet_names sh)

-- costs and periods of lines
abbrev pub numbers_of : List Line → List ℕ
numbers_of [] = []
numbers_of (ln ∷ ls) = ln.cost.0 ∷ ln.period.0 ∷ numbers_of ls

-- the table of a plan
abbrev pub table_in : Plan → List ℕ
table_in pl = numbers_of (take pl.count pl.lines)

-- a sheet that is taken, as the table's text
unfoldable pub table_lines : Sheet → List ℕ
table_lines sh = cores_written sh.plan.cores ++ tasks_written (table_in sh.plan)

-- a sheet that is refused is answered by its refusal's line
abbrev pub answer_by : (Sheet → List ℕ) → Sheet → List ℕ
answer_by text sh = cond (eqb sh.refusal.no 0) (text sh) (refusal_text sh.refusal)

-- what `sheet` writes
unfoldable pub sheet_text : List ℕ → List ℕ
sheet_text s = answer_by named_listing (input_sheet s)

-- what `table` writes
unfoldable pub table_text : List ℕ → List ℕ
table_text s = answer_by table_lines (input_sheet s)
