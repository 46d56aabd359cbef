-- What follows for every plan that keeps the structure: source document 003's properties 2 to 5, and the halves and thirds of document 01.
use Prim.Native.Nat.{ℕ, ◌+◌, ◌*◌, ◌≤◌, ◌<◌}
use mathlib.Core.Path.{◌≡◌, refl, sym, ap, ◌∙◌}
use mathlib.Core.Logic.{⊎_elim}
use mathlib.Core.Bool.{Bool, true}
use mathlib.Core.List.{List, [], ◌∷◌}
use native.Mathlib.Omega.{arith}
use lib.Dec.{ltb}
use lib.ListN.{length, get_or, get_or-map, get_or-eq_default}
use borrow.Author.Tests.{ltb-true, ltb-false, lt-ltb}
use Rattle.lists.specs.Lists.{total, parts, seek}
use Rattle.lists.specs.Rows.{how_many, column, column_of, top}
use Rattle.lists.proofs.Tests.{by_cases, and_true}
use Rattle.lists.proofs.Lists.{get_or_le_sum, parts_le}
use Rattle.lists.proofs.Parts.{first_has}
use Rattle.lists.proofs.Rows.{column_at, column_of_at, top_at, top_sum, seek_at, seek_only}
use Rattle.task_shares.specs.Movers.{has, moves, first_core, fixed_on, moves_on, lower, upper}
use Rattle.assignment.specs.Properties.{row_at, row_weight, row_share, fixed_load, Halves}
use Rattle.assignment.specs.Structure.{CoreKept, Structure}
use Rattle.task_shares.proofs.Words.{moves_says, upper_moves, lower_moves, upper_says, lower_says}
use Rattle.assignment.proofs.Loads.{count_movers, column_movers, column_all}

-- a core that has no share has no mover
none_moves : (p : ℕ) (tab : List (List ℕ)) → column p tab ≡ 0 → (how_many (moves_on p) tab ≡ 0) × (top (moves_on p) tab ≡ 0)
none_moves p [] e = (refl, refl)
none_moves p (r ∷ tab) e =
    by_cases (moves_on p r)
    (λ m. absurd (omega (arith, moves_says p r m)))
    (λ m. let ih = none_moves p tab (omega arith) in rw m (omega arith, omega arith))

module _ {m l : ℕ} {ws : List ℕ} {tab : List (List ℕ)} (s : Structure m l ws tab) where
  -- what the m cores keep the others keep
  pub kept : (p : ℕ) → CoreKept l p tab
  kept p =
      by_cases (ltb p m)
      (λ h. s.cores p (ltb-true p m h))
      (λ h.
      let z : column p tab ≡ 0 = s.beyond p (ltb-false p m h) in
      let n = none_moves p tab z in
      record { within = omega arith; few = omega arith; first = λ two. absurd (omega arith); guarded = omega arith })

  -- a row's sum is its task's weight
  pub weight_at : (i : ℕ) → get_or ws i 0 ≡ row_weight tab i
  weight_at i = ap (λ (xs : List ℕ). get_or xs i 0) (sym s.sums) ∙ get_or-map total tab i []

  -- a share is on one of the m cores
  pub share_core : (i p : ℕ) → 0 < row_share tab i p → p < m
  share_core i p h =
      by_cases (ltb p m)
      (λ e. ltb-true p m e)
      (λ e. absurd (omega (arith, column_at p tab i, s.beyond p (ltb-false p m e))))

  -- and so is a task's first core
  pub first_core_lem : (i : ℕ) → 0 < row_weight tab i → first_core (row_at tab i) < m
  first_core_lem i h = share_core i (first_core (row_at tab i)) (first_has (row_at tab i) h)

  -- of two movers one is upper and one lower
  one_each : (p : ℕ) → (how_many (upper p) tab ≤ 1) × (how_many (lower p) tab ≤ 1)
  one_each p =
      let n = count_movers p tab in
      let k = (kept p).few in
      by_cases (ltb 1 (how_many (moves_on p) tab))
      (λ e. omega (arith, (kept p).first (omega (arith, ltb-true 1 (how_many (moves_on p) tab) e))))
      (λ e. omega (arith, ltb-false 1 (how_many (moves_on p) tab) e))

  -- at most one mover is upper on a core
  pub one_upper : (p : ℕ) → how_many (upper p) tab ≤ 1
  one_upper p = (one_each p).0

  -- at most one is lower
  pub one_lower : (p : ℕ) → how_many (lower p) tab ≤ 1
  one_lower p = (one_each p).1

  -- a row that has a share is a task's
  row_there : (p i : ℕ) → 0 < row_share tab i p → i < length tab
  row_there p i h =
      by_cases (ltb i (length tab))
      (λ e. ltb-true i (length tab) e)
      (λ e. absurd (omega (arith, ap (λ (r : List ℕ). get_or r p 0) (get_or-eq_default tab [] (ltb-false i (length tab) e)))))

  -- so the upper mover of a core is the one that a search finds
  pub upper_found : (p i : ℕ) → upper p (row_at tab i) ≡ true → seek (upper p) tab ≡ i
  upper_found p i h = seek_only (upper p) tab i (one_upper p) (row_there p i (upper_says p (row_at tab i) h).0) h

  -- and the lower one
  pub lower_found : (p i : ℕ) → lower p (row_at tab i) ≡ true → seek (lower p) tab ≡ i
  lower_found p i h = seek_only (lower p) tab i (one_lower p) (row_there p i (lower_says p (row_at tab i) h).0) h

  -- none is on a core that is not there
  pub no_mover_lem : (p : ℕ) → m ≤ p → how_many (moves_on p) tab ≡ 0
  no_mover_lem p h = (none_moves p tab (s.beyond p h)).0

  -- a mover weighs no more than the fixed tasks beside it
  outweighed : (p i : ℕ) → moves_on p (row_at tab i) ≡ true → row_weight tab i ≤ fixed_load p tab
  outweighed p i h = omega (arith, (kept p).guarded, top_at (moves_on p) tab i h, top_sum (fixed_on p) tab)

  -- property 3: no more than two movers have a share on a core; if two have, it is the first core of exactly one of them
  pub property_3 : (p : ℕ) → (how_many (moves_on p) tab ≤ 2) × (how_many (moves_on p) tab ≡ 2 → how_many (lower p) tab ≡ 1)
  property_3 p = ((kept p).few, (kept p).first)

  -- property 4: the fixed tasks and the movers of a core do not exceed it
  pub property_4 : (p : ℕ) → fixed_load p tab + column_of (moves_on p) p tab ≤ l
  property_4 p = omega (arith, column_all p tab, (kept p).within)

  -- with one mover
  pub property_4_one : (p i : ℕ) → moves_on p (row_at tab i) ≡ true → fixed_load p tab + row_share tab i p ≤ l
  property_4_one p i h = omega (arith, property_4 p, column_of_at (moves_on p) p tab i h)

  -- with two
  pub property_4_two : (p i k : ℕ) → upper p (row_at tab i) ≡ true → lower p (row_at tab k) ≡ true
      → fixed_load p tab + row_share tab i p + row_share tab k p ≤ l
  property_4_two p i k h h' =
      omega (arith, property_4 p, column_movers p tab, column_of_at (upper p) p tab i h, column_of_at (lower p) p tab k h')

  -- property 2: a mover weighs less than a whole core
  pub property_2 : (i : ℕ) → moves (row_at tab i) ≡ true → row_weight tab i < l
  property_2 i h =
      let p : ℕ = first_core (row_at tab i) in
      let g : 0 < row_share tab i p = first_has (row_at tab i) (omega (arith, ltb-true 1 (parts (row_at tab i)) h, parts_le (row_at tab i))) in
      let on : moves_on p (row_at tab i) ≡ true = and_true (moves (row_at tab i)) (has p (row_at tab i)) h (lt-ltb 0 (row_share tab i p) g) in
      omega (arith, outweighed p i on, property_4_one p i on)

  -- property 5: beside an upper mover i, a mover k whose first core it is: the share of i and the whole weight of k are less than the core
  pub property_5 : (p i k : ℕ) → upper p (row_at tab i) ≡ true → lower p (row_at tab k) ≡ true → row_share tab i p + row_weight tab k < l
  property_5 p i k h h' =
      let on = lower_moves p (row_at tab k) h' in
      omega (arith, property_4_two p i k h h', outweighed p k on, moves_says p (row_at tab k) on)

  -- a mover's share is at most half a core
  pub half : (p i : ℕ) → moves_on p (row_at tab i) ≡ true → 2 * row_share tab i p ≤ l
  half p i h = omega (arith, property_4_one p i h, outweighed p i h, get_or_le_sum (row_at tab i) p)

  -- and two movers' shares two thirds
  pub two_thirds : (p i k : ℕ) → upper p (row_at tab i) ≡ true → lower p (row_at tab k) ≡ true → 3 * (row_share tab i p + row_share tab k p) ≤ 2 * l
  two_thirds p i k h h' =
      omega (
        arith,
        property_4_two p i k h h',
        outweighed p i (upper_moves p (row_at tab i) h),
        outweighed p k (lower_moves p (row_at tab k) h'),
        get_or_le_sum (row_at tab i) p,
        get_or_le_sum (row_at tab k) p,
      )

  -- where a search finds no row there is no share
  none_found : (p j : ℕ) → row_at tab j ≡ [] → row_share tab j p ≡ 0
  none_found p j e = ap (λ (r : List ℕ). get_or r p 0) e

  -- a mover that a search finds
  found_half : (p : ℕ) (f : List ℕ → Bool) → ((r : List ℕ) → f r ≡ true → moves_on p r ≡ true) → 2 * row_share tab (seek f tab) p ≤ l
  found_half p f mover =
      let j : ℕ = seek f tab in
      ⊎_elim (λ e. half p j (mover (row_at tab j) e)) (λ e. omega (arith, none_found p j e)) (seek_at f tab)

  -- both
  pub halves : (p : ℕ) → Halves l p tab
  halves p =
      let i : ℕ = seek (upper p) tab in
      let k : ℕ = seek (lower p) tab in
      let a = found_half p (upper p) (upper_moves p) in
      let b = found_half p (lower p) (lower_moves p) in
      record {
        one = a;
        two =
            ⊎_elim
            (λ u. ⊎_elim (λ w. two_thirds p i k u w) (λ e. omega (arith, none_found p k e)) (seek_at (lower p) tab))
            (λ e. omega (arith, none_found p i e))
            (seek_at (upper p) tab);
      }
