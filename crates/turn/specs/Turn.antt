-- Which core a run goes to, document 01: for a task of weight w with shares ss, after t runs of the cycle with counts ns.
-- Cores are counted from 1, as in the answer; core 0 is nobody.
use Rattle.std.specs.Prelude.{ℕ, zero, suc, ◌+◌, ◌*◌, Bool, cond, ◌&&◌, ◌||◌, List, [], ◌∷◌, ltb, eqb, get_or, set}
use Rattle.units.specs.Limits.{cores_limit}
use Rattle.lists.specs.Lists.{zeros}
use Rattle.arith.specs.Ceiling.{ceil_div}
use Rattle.turn.specs.declared.Best.{Best}
use Rattle.turn.specs.declared.Turn.{Turn}

-- a core with share s and n of those runs is open
abbrev pub is_open : ℕ → ℕ → ℕ → ℕ → Bool
is_open w t s n = ltb (n * w) (s * (t + 1))

-- the due place of its next run
abbrev pub due_place : ℕ → ℕ → ℕ → ℕ
due_place w s n = ceil_div ((n + 1) * w) s

-- the better of the best core so far and core j: open, with the least due place, lowest core at a tie
abbrev pub better_core : ℕ → ℕ → Best → ℕ → ℕ → ℕ → Best
better_core w t b j s n =
    cond (is_open w t s n && (eqb b.core 0 || ltb (due_place w s n) b.due))
    (record { core = j; due = due_place w s n })
    b

-- the best of a best core so far and the cores from j on
unfoldable pub best_from : ℕ → ℕ → ℕ → Best → List ℕ → List ℕ → Best
best_from w t j b [] ns = b
best_from w t j b (s ∷ ss) [] = b
best_from w t j b (s ∷ ss) (n ∷ ns) = best_from w t (suc j) (better_core w t b j s n) ss ns

-- nobody yet
abbrev pub nobody : Best
nobody = record { core = 0; due = 0 }

-- the core of the next run
unfoldable pub core_of : ℕ → ℕ → List ℕ → List ℕ → ℕ
core_of w t ss ns = (best_from w t 1 nobody ss ns).core

-- one run more for core j, counted from 0
abbrev pub more : List ℕ → ℕ → List ℕ
more ns j = set ns j (get_or ns j 0 + 1)

-- the run goes to core j + 1; after w runs counts and place start from 0 again
unfoldable pub counted : ℕ → ℕ → List ℕ → ℕ → Turn
counted w t ns zero = record { core = 0; counts = ns; place = t }
counted w t ns (suc j) =
    cond (eqb (t + 1) w)
    (record { core = suc j; counts = zeros cores_limit; place = 0 })
    (record { core = suc j; counts = more ns j; place = t + 1 })

-- the turn step
unfoldable pub turn_of : ℕ → ℕ → List ℕ → List ℕ → Turn
turn_of w t ss ns = counted w t ns (core_of w t ss ns)

-- the counts and the place of a fresh plan
abbrev pub fresh : Turn
fresh = record { core = 0; counts = zeros cores_limit; place = 0 }

-- the turn after a turn
abbrev pub next_turn : ℕ → List ℕ → Turn → Turn
next_turn w ss r = turn_of w r.place ss r.counts

-- the cores of the next k runs
unfoldable pub turns : ℕ → ℕ → List ℕ → Turn → List ℕ
turns zero w ss r = []
turns (suc k) w ss r = let next = next_turn w ss r in next.core ∷ turns k w ss next
