-- Document 01's table of proved examples: what is given, and the answer.
use Rattle.std.specs.Prelude.{ℕ, ◌-◌, Bool, true, false, ◌&&◌, List, [], ◌∷◌, ◌++◌, map, eqb, ℤ, pos, negsuc, length, take}
use Rattle.std.specs.Int.Signed.{le_z}
use Rattle.units.specs.Limits.{cores_limit}
use Rattle.lists.specs.Lists.{total, zeros}
use Rattle.planning.specs.Plan.{plan_of, shares_table}
use Rattle.lateness.specs.Lateness.{lates_of}
use Rattle.turn.specs.Turn.{fresh, turns as turns_from}

-- a plan: cores, table, common period, shares and bounds; a refusal: its number and task; a list taken; a mover's turns
pub data Example : Type 0 where
  plans : ℕ → List ℕ → ℕ → List (List ℕ) → List ℤ → Example
  takes : ℕ → List ℕ → ℕ → Example
  refuses : ℕ → List ℕ → ℕ → ℕ → Example
  turns : List ℕ → List ℕ → Example

-- two whole numbers are the same
abbrev pub sameℤ : ℤ → ℤ → Bool
sameℤ a b = le_z a b && le_z b a

-- two lists are the same, entry by entry
abbrev pub same : {A : Type 0} → (A → A → Bool) → List A → List A → Bool
same f [] [] = true
same f [] (y ∷ ys) = false
same f (x ∷ xs) [] = false
same f (x ∷ xs) (y ∷ ys) = f x y && same f xs ys

-- the definitions give the answer
unfoldable pub holds : Example → Bool
holds (plans m xs l rows lates) =
    eqb (plan_of m xs).refusal.no 0 && eqb (plan_of m xs).refusal.named 0
    && eqb (plan_of m xs).plan.common l
    && same (same eqb) (map (take m) (take (length rows) (shares_table (plan_of m xs).plan))) rows
    && same sameℤ (take (length lates) (lates_of (plan_of m xs).plan)) lates
holds (takes m xs l) = eqb (plan_of m xs).refusal.no 0 && eqb (plan_of m xs).plan.common l
holds (refuses m xs n i) = eqb (plan_of m xs).refusal.no n && eqb (plan_of m xs).refusal.named i
holds (turns ss ks) = same eqb (turns_from (length ks) (total ss) (ss ++ zeros (cores_limit - length ss)) fresh) ks

-- all of them do
abbrev pub all_hold : List Example → Bool
all_hold [] = true
all_hold (x ∷ xs) = holds x && all_hold xs

-- the list of E1 and E2
abbrev pub one : List ℕ
one = 5 ∷ 6 ∷ 4 ∷ 6 ∷ 2 ∷ 3 ∷ 2 ∷ 3 ∷ 2 ∷ 3 ∷ 1 ∷ 2 ∷ []

-- E1 to E12
abbrev pub examples : List Example
examples =
    plans 4 one 6
    ((5 ∷ 0 ∷ 0 ∷ 0 ∷ []) ∷ (0 ∷ 4 ∷ 0 ∷ 0 ∷ []) ∷ (0 ∷ 0 ∷ 4 ∷ 0 ∷ []) ∷ (0 ∷ 0 ∷ 0 ∷ 4 ∷ []) ∷ (1 ∷ 2 ∷ 1 ∷ 0 ∷ []) ∷ (0 ∷ 0 ∷ 1 ∷ 2 ∷ []) ∷ [])
    (pos 6 ∷ pos 9 ∷ pos 13 ∷ pos 8 ∷ negsuc 0 ∷ pos 5 ∷ [])
    ∷ refuses 3 one 6 0
    ∷ plans 1 (1 ∷ 1 ∷ []) 1 ((1 ∷ []) ∷ []) (pos 0 ∷ [])
    ∷ refuses 1 (1 ∷ 1 ∷ 1 ∷ 1000000 ∷ []) 6 0
    ∷ plans 2 (2 ∷ 3 ∷ 2 ∷ 3 ∷ 2 ∷ 3 ∷ []) 3 ((2 ∷ 0 ∷ []) ∷ (0 ∷ 2 ∷ []) ∷ (1 ∷ 1 ∷ []) ∷ []) (pos 9 ∷ pos 9 ∷ negsuc 0 ∷ [])
    ∷ plans 2 (7 ∷ 10 ∷ 7 ∷ 10 ∷ 2 ∷ 5 ∷ 1 ∷ 10 ∷ 1 ∷ 10 ∷ []) 10
    ((7 ∷ 0 ∷ []) ∷ (0 ∷ 7 ∷ []) ∷ (3 ∷ 1 ∷ []) ∷ (0 ∷ 1 ∷ []) ∷ (0 ∷ 1 ∷ []) ∷ [])
    (pos 9 ∷ pos 6 ∷ negsuc 2 ∷ pos 6 ∷ pos 6 ∷ [])
    ∷ turns (1 ∷ 2 ∷ 1 ∷ []) (2 ∷ 1 ∷ 2 ∷ 3 ∷ [])
    ∷ turns (0 ∷ 0 ∷ 1 ∷ 2 ∷ []) (4 ∷ 3 ∷ 4 ∷ [])
    ∷ refuses 1 (1 ∷ 1000 ∷ 1 ∷ 1001 ∷ []) 5 2
    ∷ takes 1 (1 ∷ 999 ∷ 1 ∷ 1001 ∷ []) 999999
    ∷ refuses 1 (6 ∷ 5 ∷ 0 ∷ 1 ∷ []) 4 1
    ∷ refuses 0 [] 1 0
    ∷ []

-- a slip that no line of the table shows: shares 2 and 2 are not turned in blocks, 1, 1, 2, 2
abbrev pub not_in_blocks : Example
not_in_blocks = turns (2 ∷ 2 ∷ []) (1 ∷ 2 ∷ 1 ∷ 2 ∷ [])
