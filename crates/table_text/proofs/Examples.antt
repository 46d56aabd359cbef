-- Texts and what they say.
use Prim.Native.String.{String}
use mathlib.Core.Path.{◌≡◌, refl}
use mathlib.Core.List.{[], ◌∷◌}
use lib.ListN.{replicate}
use Rattle.writing.specs.Ascii.{ascii}
use Rattle.scanning.specs.Number.{digit_of, digits_of, first_of, number_at}
use Rattle.scanning.specs.Line.{followed_by, field_at, second_after, first_after, pair_at}
use Rattle.scanning.specs.Lines.{pair_end, unreadable_from}
use Rattle.table_text.specs.Text.{Said, says, unreadable, then_later, numbers_from, table_from, after_cores, text_of}

-- what a text says
abbrev Says : String → Said → Type 0
Says text w = text_of (ascii text) ≡ w

-- E1
pub e1 : Says "4\n5 6\n4 6\n2 3\n2 3\n2 3\n1 2\n" (says 4 (5 ∷ 6 ∷ 4 ∷ 6 ∷ 2 ∷ 3 ∷ 2 ∷ 3 ∷ 2 ∷ 3 ∷ 1 ∷ 2 ∷ []))
unfolding digit_of digits_of first_of number_at followed_by field_at second_after first_after pair_at pair_end unreadable_from then_later numbers_from table_from after_cores text_of
e1 = refl

-- a core count alone, 0 as a number, and 2^32 - 1, the largest
pub readable : Says "0\n" (says 0 []) × Says "1\n0 0\n" (says 1 (0 ∷ 0 ∷ [])) × Says "1\n4294967295 1\n" (says 1 (4294967295 ∷ 1 ∷ []))
unfolding digit_of digits_of first_of number_at followed_by field_at second_after first_after pair_at pair_end unreadable_from then_later numbers_from table_from after_cores text_of
readable = (refl, refl, refl)

-- a leading zero, 2^32, two blanks, an empty line, and a last line without a newline
pub unreadables :
    Says "4\n5 6\n04 6\n" (unreadable 3)
    × Says "1\n4294967296 1\n" (unreadable 2)
    × Says "1\n5  6\n" (unreadable 2)
    × Says "1\n\n5 6\n" (unreadable 2)
    × Says "1\n5 6\n7 8" (unreadable 3)
unfolding digit_of digits_of first_of number_at followed_by field_at second_after first_after pair_at pair_end unreadable_from then_later numbers_from table_from after_cores text_of
unreadables = (refl, refl, refl, refl, refl)

-- an empty text, and one of 4,097 bytes, whose first line is unreadable too
pub line_zero : Says "" (unreadable 0) × (text_of (replicate 4097 32) ≡ unreadable 0)
unfolding digit_of digits_of first_of number_at followed_by field_at second_after first_after pair_at pair_end unreadable_from then_later numbers_from table_from after_cores text_of
line_zero = (refl, refl)
