-- The choices of all cores at an instant, in one scan of the tasks, and how long they last. Tasks are counted from 1 where a choice names one.
use Rattle.std.specs.Prelude.{ℕ, zero, suc, ◌-◌, cond, ◌&&◌, ◌||◌, List, ltb, eqb, get_or, set, replicate}
use Rattle.units.specs.Limits.{cores_limit}
use Rattle.fronts.specs.declared.Front.{Front}
use Rattle.fronts.specs.Front.{no_front, sees, ahead_of}
use Rattle.instants.specs.declared.Seen.{Seen}

-- no choice
abbrev pub idle : Seen
idle = record { task = 0; key = 0; run = 0; left = 0 }

-- the better of the best so far and task i, from 1, whose oldest run has had h ticks: lowest task number at a tie
abbrev pub better : Seen → ℕ → Front → ℕ → Seen
better b i f h =
    cond (eqb b.task 0 || ltb f.key b.key)
    (record { task = i; key = f.key; run = f.run; left = f.length - h })
    b

-- one task more, where its oldest run waits
abbrev pub see_one : List Seen → ℕ → Front → ℕ → ℕ → List Seen
see_one ss i f h t = cond (sees f t) (set ss (f.core - 1) (better (get_or ss (f.core - 1) idle) i f h)) ss

-- each core's choice at an instant t, of the first n tasks
unfoldable pub seen_of : List Front → List ℕ → ℕ → ℕ → List Seen
seen_of fs hs t zero = replicate cores_limit idle
seen_of fs hs t (suc n) = see_one (seen_of fs hs t n) (suc n) (get_or fs n no_front) (get_or hs n 0) t

-- the choice of core p, from 0, alone
unfoldable pub seen_at : List Front → List ℕ → ℕ → ℕ → ℕ → Seen
seen_at fs hs t p zero = idle
seen_at fs hs t p (suc n) =
    let f = get_or fs n no_front in
    cond (sees f t && eqb f.core (suc p)) (better (seen_at fs hs t p n) (suc n) f (get_or hs n 0)) (seen_at fs hs t p n)

-- the next release time ahead of the first n tasks, where it is before an instant v
unfoldable pub next_of : List Front → ℕ → ℕ → ℕ → ℕ
next_of fs t v zero = v
next_of fs t v (suc n) = ahead_of (get_or fs n no_front) t (next_of fs t v n)

-- the least that a choice of the first n cores still has to run, where it is below v
unfoldable pub least_left : List Seen → ℕ → ℕ → ℕ
least_left ss v zero = v
least_left ss v (suc n) =
    let one = get_or ss n idle in
    cond (ltb 0 one.task && ltb one.left (least_left ss v n)) one.left (least_left ss v n)
