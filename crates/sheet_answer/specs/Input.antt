-- What the programs `sheet` and `table` are given: a line with M, as in document 01's text, then the sheet.
use Rattle.std.specs.Prelude.{Some, None, ℕ, List, drop}
use Rattle.units.specs.Refusals.{refusal, text_no}
use Rattle.scanning.specs.Number.{Number}
use Rattle.table_text.specs.Text.{cores_line}
use Rattle.sheet_reading.specs.Read.{unread, plan_sheet}
use Rattle.sheet_reading.specs.Read.{Sheet}

-- what stands after M's line is the sheet; where that line cannot be read, 16 names line 1
unfoldable pub after_cores : List ℕ → Number → Sheet
after_cores s (Some (m, at)) = plan_sheet m (drop at s)
after_cores s None = unread (refusal text_no 1)

-- the sheet of an input, planned: 16 comes first, then 19
unfoldable pub input_sheet : List ℕ → Sheet
input_sheet s = after_cores s (cores_line s)
