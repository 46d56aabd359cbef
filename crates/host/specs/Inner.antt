-- For the contracts of private functions alone: a table's numbers as the code holds them. It stands for no rule of document 01.
use Rattle.std.specs.Prelude.{ℕ, ◌*◌, ◌-◌, ◌/◌, ◌%◌, Bool, cond, not, ◌||◌, List, [], ◌++◌, eqb, length}
use Rattle.units.specs.Limits.{tasks_limit}
use Rattle.lists.specs.Lists.{zeros}
use Rattle.little_endian.specs.Number.{numbers_of}
use Rattle.admission.specs.Refusals.{no_table}
use Rattle.host.specs.declared.bytes.Table.{Table}

-- a table's numbers, then zeros, in an array with room for sixty-four tasks
abbrev pub filled : List ℕ → List ℕ
filled xs = xs ++ zeros (2 * tasks_limit - length xs)

-- the bytes end inside a number, or their numbers are no table
abbrev pub unread : List ℕ → Bool
unread bytes = not (eqb (length bytes % 4) 0) || no_table (length bytes / 4)

-- the numbers that are held: of such bytes none
unfoldable pub held_of : List ℕ → List ℕ
held_of bytes = cond (unread bytes) [] (numbers_of bytes)

-- those numbers and how many they are
unfoldable pub held_table : List ℕ → Table
held_table bytes = record { numbers = filled (held_of bytes); count = length (held_of bytes) }
