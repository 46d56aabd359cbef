-- The two passes of assignment. A core's room is what it has left of L; tasks and cores are counted from 0.
use Rattle.std.specs.Prelude.{ℕ, suc, ◌+◌, ◌-◌, min, cond, List, [], ◌∷◌, ◌++◌, map, ltb, leb, length, get_or, set, replicate}
use Rattle.units.specs.Limits.{cores_limit}
use Rattle.units.specs.Units.{nums}
use Rattle.lists.specs.Lists.{zeros, most, at_most}
use Rattle.ordering.specs.Order.{order, in_order}
use Rattle.assignment.specs.declared.Row.{Row}

-- pass one: a task's shares if it is given wholly to core p
abbrev pub whole : ℕ → ℕ → List ℕ → List ℕ
whole w p room = set (zeros (length room)) p w

-- and what each core has left then
abbrev pub less : ℕ → ℕ → List ℕ → List ℕ
less w p room = set room p (get_or room p 0 - w)

-- pass two: of each core from the pointer on a task is given the smaller of what it still needs and what the core has left
abbrev pub give : ℕ → List ℕ → List ℕ
give n [] = []
give n (r ∷ rs) = min n r ∷ cond (ltb r n) (give (n - r) rs) (zeros (length rs))

-- how many full cores are left for the next one: the task still needs more than they have left
abbrev pub behind : ℕ → List ℕ → ℕ
behind n [] = 0
behind n (r ∷ rs) = cond (ltb r n) (suc (behind (n - r) rs)) 0

-- and what the cores have left from the pointer on then: those left behind are never looked at again
abbrev pub onward : ℕ → List ℕ → List ℕ
onward n [] = []
onward n (r ∷ rs) = cond (ltb r n) (onward (n - r) rs) ((r - n) ∷ rs)

-- the shares of tasks of these weights in pass two, with the pointer at core p and this room from there on
abbrev pub pass_two : ℕ → List ℕ → List ℕ → List (List ℕ)
pass_two p [] room = []
pass_two p (w ∷ ws) room = (zeros p ++ give w room) ∷ pass_two (p + behind w room) ws (onward w room)

-- the shares in both passes: wholly to the core with the most room, lowest number at a tie; from the first misfit on pass two
abbrev pub passes : List ℕ → List ℕ → List (List ℕ)
passes [] room = []
passes (w ∷ ws) room =
    cond (leb w (most room))
    (whole w (at_most room) room ∷ passes ws (less w (at_most room) room))
    (pass_two 0 (w ∷ ws) room)

-- each row put at its task's number
abbrev pub scatter : List ℕ → List (List ℕ) → List (List ℕ) → List (List ℕ)
scatter [] rs tab = tab
scatter (t ∷ ts) [] tab = tab
scatter (t ∷ ts) (r ∷ rs) tab = scatter ts rs (set tab t r)

-- n empty rows of m cores
unfoldable pub empty_rows : ℕ → ℕ → List (List ℕ)
empty_rows n m = replicate n (zeros m)

-- the shares of each task on each core, for the tasks' weights and the cores' room
unfoldable pub shares_of : List ℕ → List ℕ → List (List ℕ)
shares_of ws room = scatter (order ws) (passes (in_order ws) room) (empty_rows (length ws) (length room))

-- the room of m empty cores, each of l units; the others have none
abbrev pub rooms : ℕ → ℕ → List ℕ
rooms m l = replicate m l ++ zeros (cores_limit - m)

-- the numbers of a table of shares
abbrev pub rows_of : List Row → List (List ℕ)
rows_of rs = map (λ (r : Row). nums r.shares) rs
