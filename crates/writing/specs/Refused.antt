-- A refusal's line, document 01, "Listing and text".
use Rattle.std.specs.Prelude.{ℕ, Bool, cond, ◌&&◌, List, [], ◌++◌, leb, eqb}
use Rattle.units.specs.Refusals.{text_no, arrival_no, order_no}
use Rattle.units.specs.Refusals.{Refusal}
use Rattle.writing.specs.Field.{field, line_end}

-- 25 to 27 name an arrival
abbrev pub of_arrival : ℕ → Bool
of_arrival n = leb arrival_no n && leb n order_no

-- what a refusal names: the line of an unreadable text, ` line 4`, line 0 too; else, where there is one, an arrival, ` arrival 3`, or a task, ` task 2`
unfoldable pub named_text : Refusal → List ℕ
named_text r =
    cond (eqb r.no text_no)
    (field " line " r.named)
    (cond (eqb r.named 0) [] (cond (of_arrival r.no) (field " arrival " r.named) (field " task " r.named)))

-- a refusal: `refused 6`, `refused 3 task 2`, `refused 16 line 4`, `refused 25 arrival 3`
unfoldable pub refusal_text : Refusal → List ℕ
refusal_text r = field "refused " r.no ++ named_text r ++ line_end
