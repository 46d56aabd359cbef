-- Inputs of a rehearsal and what they say.
use Prim.Native.String.{String}
use mathlib.Core.Path.{◌≡◌, refl}
use mathlib.Core.Bool.{true, false}
use mathlib.Core.List.{[], ◌∷◌}
use Rattle.writing.specs.Ascii.{ascii}
use Rattle.line_place.specs.Place.{first_place}
use Rattle.scanning.specs.Number.{digit_of, digits_of, first_of, number_at}
use Rattle.scanning.specs.Line.{followed_by, field_at, second_after, first_after, pair_at}
use Rattle.scanning.specs.Lines.{pair_end, unreadable_from}
use Rattle.scanning.specs.Word.{word_at}
use Rattle.table_text.specs.Text.{then_later as then_tasks, numbers_from, table_from, after_cores, text_of}
use Rattle.day_text.specs.Line.{stop_after, stop_line, stop_here, stop_place, after_time, from_time, arrival_line}
use Rattle.day_text.specs.Input.{DaySays, rehearses, unreadable, then_later, arrivals_from, then_place, place_after, after_stop, after_table, day_of}

-- what an input says
abbrev Says : String → DaySays → Type 0
Says text w = day_of (ascii text) ≡ w

-- two arrivals, none, and numbers of fifteen digits
pub readable :
    Says "1\n2 5\nrehearse 10\n0 1 2\n7 1 1\n" (rehearses 1 (2 ∷ 5 ∷ []) 10 (0 ∷ 1 ∷ 2 ∷ 7 ∷ 1 ∷ 1 ∷ []) false)
    × Says "1\n2 5\nrehearse 0\n" (rehearses 1 (2 ∷ 5 ∷ []) 0 [] false)
    × Says "1\nrehearse 999999999999999\n999999999999999 0 0\n" (rehearses 1 [] 999999999999999 (999999999999999 ∷ 0 ∷ 0 ∷ []) false)
unfolding day_of after_table after_stop stop_place stop_here stop_line stop_after first_place word_at field_at followed_by number_at first_of digits_of digit_of text_of
    after_cores table_from unreadable_from numbers_from then_tasks pair_end pair_at first_after second_after arrival_line from_time after_time
    arrivals_from then_later
    place_after then_place
readable = (refl, refl, refl)

-- a line of two numbers, one of 10^15, one without a newline, an empty one, and a second stop's line: the arrivals before it are read, and more is left
pub left :
    Says "1\n2 5\nrehearse 9\n0 1 2\n7 1\n" (rehearses 1 (2 ∷ 5 ∷ []) 9 (0 ∷ 1 ∷ 2 ∷ []) true)
    × Says "1\n2 5\nrehearse 9\n1000000000000000 1 1\n" (rehearses 1 (2 ∷ 5 ∷ []) 9 [] true)
    × Says "1\n2 5\nrehearse 9\n0 1 2" (rehearses 1 (2 ∷ 5 ∷ []) 9 [] true)
    × Says "1\n2 5\nrehearse 9\n\n0 1 2\n" (rehearses 1 (2 ∷ 5 ∷ []) 9 [] true)
    × Says "1\n2 5\nrehearse 9\n0 1 2\nrehearse 9\n" (rehearses 1 (2 ∷ 5 ∷ []) 9 (0 ∷ 1 ∷ 2 ∷ []) true)
unfolding day_of after_table after_stop stop_place stop_here stop_line stop_after first_place word_at field_at followed_by number_at first_of digits_of digit_of text_of
    after_cores table_from unreadable_from numbers_from then_tasks pair_end pair_at first_after second_after arrival_line from_time after_time
    arrivals_from then_later
    place_after then_place
left = (refl, refl, refl, refl, refl)

-- an unreadable table's line, no stop's line, one without a number, one of 10^15, one that does not start its line, and none before it
pub unreadables :
    Says "1\n2 x\nrehearse 9\n" (unreadable 2)
    × Says "1\n2 5\n" (unreadable 3)
    × Says "1\n2 5\nrehearse\n0 1 2\n" (unreadable 3)
    × Says "1\n2 5\nrehearse 1000000000000000\n" (unreadable 3)
    × Says "1\n2 5\n rehearse 9\n" (unreadable 3)
    × Says "rehearse 9\n0 1 2\n" (unreadable 0)
unfolding day_of after_table after_stop stop_place stop_here stop_line stop_after first_place word_at field_at followed_by number_at first_of digits_of digit_of text_of
    after_cores table_from unreadable_from numbers_from then_tasks pair_end pair_at first_after second_after arrival_line from_time after_time
    arrivals_from then_later
    place_after then_place
unreadables = (refl, refl, refl, refl, refl, refl)
