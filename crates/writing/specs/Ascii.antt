-- Text as its bytes.
use Rattle.std.specs.Prelude.{ℕ, List, [], ◌∷◌}
use Prim.Native.Char.{code}
use Prim.Native.String.{String, [] as []ᵗ, ◌∷◌ as ◌∷ᵗ◌}

-- the codes of a text's characters, which for ASCII are its bytes
abbrev pub ascii : String → List ℕ
ascii []ᵗ = []
ascii (c ∷ᵗ s) = code c ∷ ascii s

-- the byte between two numbers of a line
abbrev pub blank : ℕ
blank = 32

-- the byte that ends a line
abbrev pub newline : ℕ
newline = 10
