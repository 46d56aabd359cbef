-- The runs that have the cores after an instant's choices.
use Rattle.std.specs.Prelude.{ℕ, zero, suc, List, get_or, set}
use Rattle.goings.specs.declared.Going.{Going}
use Rattle.goings.specs.Going.{no_going, going_of}
use Rattle.goings.specs.Rows.{going_at, put_going}
use Rattle.instants.specs.declared.Seen.{Seen}
use Rattle.instants.specs.Seen.{idle}

-- of each of the first n cores
unfoldable pub goings_of : List Going → List Seen → ℕ → ℕ → List Going
goings_of gs ss t zero = gs
goings_of gs ss t (suc n) =
    let one = get_or ss n idle in
    set (goings_of gs ss t n) n (going_of (get_or (goings_of gs ss t n) n no_going) one.task one.run t)

-- the same in a list of three numbers a core
unfoldable pub gone_on : List ℕ → List Seen → ℕ → ℕ → List ℕ
gone_on xs ss t zero = xs
gone_on xs ss t (suc n) =
    let one = get_or ss n idle in
    put_going (gone_on xs ss t n) n (going_of (going_at (gone_on xs ss t n) n) one.task one.run t)
