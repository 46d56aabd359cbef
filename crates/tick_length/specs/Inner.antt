-- For the contracts of functions that only crates of ours call. It stands for no rule of document 02.
use Rattle.std.specs.Prelude.{ℕ, cond, ltb}

-- what 32 bits hold of a number: itself, or the largest of them in place of a larger one
abbrev pub held : ℕ → ℕ
held n = cond (ltb n 4294967296) n 4294967295
