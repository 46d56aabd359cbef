-- How far a task's cores are behind what is due.
use Prim.Native.Nat.{ℕ, zero, suc, ◌+◌, ◌-◌, ◌*◌, ◌/◌, ◌≤◌, ◌<◌}
use mathlib.Core.Path.{◌≡◌}
use mathlib.Core.List.{List, [], ◌∷◌}
use native.Mathlib.Omega.{arith}
use lib.ListN.{length, get_or}
use Rattle.lists.specs.Lists.{total}
use Rattle.turn.specs.Turn.{more}

-- a core with share s and n runs, at place d
abbrev pub gap : ℕ → ℕ → ℕ → ℕ → ℕ
gap w d s n = s * d / w - n

-- all cores
unfoldable pub behind : ℕ → ℕ → List ℕ → List ℕ → ℕ
behind w d [] ns = 0
behind w d (s ∷ ss) [] = 0
behind w d (s ∷ ss) (n ∷ ns) = gap w d s n + behind w d ss ns

-- a bound on each core is one on all
pub behind_bound : (w d e : ℕ) (ss ns : List ℕ) → ((i : ℕ) → i < length ss → gap w d (get_or ss i 0) (get_or ns i 0) * w ≤ get_or ss i 0 * e)
    → behind w d ss ns * w ≤ total ss * e
unfolding behind
behind_bound w d e [] ns h = omega arith
behind_bound w d e (s ∷ ss) [] h = omega arith
behind_bound w d e (s ∷ ss) (n ∷ ns) h = omega (arith, h 0 (omega arith), behind_bound w d e ss ns (λ i l. h (suc i) (omega arith)))

-- each core is behind by no more than all
pub behind_part : (w d : ℕ) (ss ns : List ℕ) (i : ℕ) → i < length ss → i < length ns → gap w d (get_or ss i 0) (get_or ns i 0) ≤ behind w d ss ns
unfolding behind
behind_part w d [] ns i l m = absurd (omega arith)
behind_part w d (s ∷ ss) [] i l m = absurd (omega arith)
behind_part w d (s ∷ ss) (n ∷ ns) zero l m = omega arith
behind_part w d (s ∷ ss) (n ∷ ns) (suc i) l m = omega (arith, behind_part w d ss ns i (omega arith) (omega arith))

-- a run more changes the gap of its core only
pub behind_more : (w d : ℕ) (ss ns : List ℕ) (j : ℕ) → j < length ss → j < length ns
    → behind w d ss (more ns j) + gap w d (get_or ss j 0) (get_or ns j 0) ≡ behind w d ss ns + gap w d (get_or ss j 0) (get_or ns j 0 + 1)
unfolding behind
behind_more w d [] ns j l m = absurd (omega arith)
behind_more w d (s ∷ ss) [] j l m = absurd (omega arith)
behind_more w d (s ∷ ss) (n ∷ ns) zero l m = omega arith
behind_more w d (s ∷ ss) (n ∷ ns) (suc j) l m = omega (arith, behind_more w d ss ns j (omega arith) (omega arith))
