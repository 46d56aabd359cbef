-- Pieces of a line.
use Rattle.std.specs.Prelude.{ℕ, List, [], ◌∷◌, ◌++◌}
use Prim.Native.String.{String}
use Rattle.writing.specs.Ascii.{ascii, newline}
use Rattle.writing.specs.Decimal.{decimal_of}

-- a label and a number
abbrev pub field : String → ℕ → List ℕ
field label n = ascii label ++ decimal_of n

-- the end of a line
abbrev pub line_end : List ℕ
line_end = newline ∷ []
