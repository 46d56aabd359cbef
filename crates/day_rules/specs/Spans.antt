-- The spans of several cores that end, as the model and the code say them. It stands for no rule of document 02.
use Rattle.std.specs.Prelude.{ℕ, zero, suc, List, [], ◌++◌, get_or}
use Rattle.goings.specs.declared.Going.{Going}
use Rattle.goings.specs.Going.{no_going}
use Rattle.day_lines.specs.declared.Event.{Event}
use Rattle.day_rules.specs.Day.{span_end}

-- those of the first n cores that end at t, where runs hs have the cores after gs
abbrev pub spans_end : List Going → List Going → ℕ → ℕ → List Event
spans_end gs hs t zero = []
spans_end gs hs t (suc p) = let h = get_or hs p no_going in spans_end gs hs t p ++ span_end p (get_or gs p no_going) h.task h.run t
