-- What a reading of the input answers. No contract can say which bytes are read.
use Rattle.std.specs.Prelude.{ℕ, Option, Some, None}

-- how many bytes of the buffer it filled
abbrev pub bytes_of : Option ℕ → ℕ
bytes_of (Some n) = n
bytes_of None = 0
