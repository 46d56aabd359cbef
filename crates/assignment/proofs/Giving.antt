-- A task's shares in pass two, given core by core from the pointer on.
use Prim.Native.Nat.{ℕ, suc, ◌+◌, ◌-◌, ◌≤◌, ◌<◌, min}
use mathlib.Core.Path.{◌≡◌, refl, sym, ap, ap₂, ◌∙◌}
use mathlib.Core.Bool.{true, false, ◌&&◌}
use mathlib.Core.List.{List, [], ◌∷◌, ◌++◌, append_assoc, append-nil, tail-eq_of_cons-eq}
use native.Mathlib.Omega.{arith}
use native.Mathlib.Numerals.{add-one}
use lib.Dec.{ltb}
use lib.ListN.{length, get_or, take, drop, set, length-set, length-drop, length-replicate, replicate-append-replicate, drop_of_length-le}
use lib.Seq.{take-suc-set, drop-cons, drop-set-lt, take_all, take_at, drop_at, set_split, get_or-set_same}
use borrow.Author.Tests.{ltb-true, ltb-false, lt-ltb, le-ltb}
use Rattle.lists.specs.Lists.{zeros}
use Rattle.lists.proofs.Tests.{by_cases, and_left, and_right}
use Rattle.assignment.specs.Passes.{give, behind, onward}

-- of the room of the cores from core b on (m in all) a task of weight w is given its shares: the pointer is now at core p, and need is what it still needs
pub record Giving (m w b : ℕ) (room row left : List ℕ) (need p : ℕ) : Type 0 where
  pub below : p ≤ m
  pub row_long : length row ≡ m
  pub left_long : length left ≡ m
  pub pointer : b + behind w room ≡ p + behind need (drop p left)
  pub kept : onward w room ≡ onward need (drop p left)
  -- while it needs more, the row is blank from the pointer on
  pub given : 0 < need → zeros b ++ give w room ≡ take p row ++ give need (drop p left)
  pub blank : 0 < need → drop p row ≡ zeros (length (drop p left))
  -- then the row is whole
  pub whole : need ≡ 0 → zeros b ++ give w room ≡ row

-- a step: the task needs more, and the core at the pointer gives it v and has u left; then it still needs n
pub record Step (m : ℕ) (left : List ℕ) (need p v u n : ℕ) : Type 0 where
  pub low : p < m
  pub some : 0 < need
  pub share : v ≡ min need (get_or left p 0)
  pub rest : u ≡ get_or left p 0 - need
  pub more : n ≡ need - get_or left p 0

-- a task that needs no more is given nothing
give_none : (rs : List ℕ) → give 0 rs ≡ zeros (length rs)
give_none [] = refl
give_none (r ∷ rs) = let a : min 0 r ≡ 0 = omega arith in rw (le-ltb r 0 (omega arith), a)

-- it leaves no core behind
behind_none : (rs : List ℕ) → behind 0 rs ≡ 0
behind_none [] = refl
behind_none (r ∷ rs) = rw (le-ltb r 0 (omega arith))

-- and takes nothing away
onward_none : (rs : List ℕ) → onward 0 rs ≡ rs
onward_none [] = refl
onward_none (r ∷ rs) = let a : r - 0 ≡ r = omega arith in rw (le-ltb r 0 (omega arith), a)

-- the task needs more, and there is a core left
pub going : (need p m : ℕ) → (ltb 0 need && ltb p m) ≡ true → (0 < need) × (p < m)
going need p m e = (ltb-true 0 need (and_left (ltb 0 need) (ltb p m) e), ltb-true p m (and_right (ltb 0 need) (ltb p m) e))

-- at the first core
pub start : (m w b : ℕ) (left : List ℕ) → b ≤ m → length left ≡ m → Giving m w b (drop b left) (zeros m) left w b
start m w b left h k =
    let rest : List ℕ = zeros (length (drop b left)) in
    let long = length-replicate {A = ℕ} b 0 in
    let n : m ≡ b + length (drop b left) = omega (arith, length-drop b left) in
    let parts : zeros m ≡ zeros b ++ rest = ap zeros n ∙ sym (replicate-append-replicate {A = ℕ} b (length (drop b left)) 0) in
    record {
      below = h;
      row_long = length-replicate {A = ℕ} m 0;
      left_long = k;
      pointer = refl;
      kept = refl;
      given = λ some. rw (parts, take_at (zeros b) rest b long);
      blank = λ some. rw (parts, drop_at (zeros b) rest b long);
      whole = λ none. rw (none, give_none (drop b left), parts);
    }

module _ (m w b : ℕ) (room row left : List ℕ) (need p : ℕ) (g : Giving m w b room row left need p) where
  module _ (v u n : ℕ) (s : Step m left need p v u n) where
    -- the core at the pointer, and those after it
    cons : drop p left ≡ get_or left p 0 ∷ drop (suc p) left
    cons = drop-cons left p 0 (omega (arith, s.low, g.left_long))

    after : drop (suc p) (set left p u) ≡ drop (suc p) left
    after = drop-set-lt (suc p) left p u (omega arith)

    -- the row is blank there too
    blank_after : drop (suc p) row ≡ zeros (length (drop (suc p) left))
    blank_after =
        tail-eq_of_cons-eq
        (sym (drop-cons row p 0 (omega (arith, s.low, g.row_long))) ∙ g.blank s.some ∙ ap (λ (l : List ℕ). zeros (length l)) cons)

    -- the task needs more: the core is left for the next one
    pub next : 0 < n → Giving m w b room (set row p v) (set left p u) n (p + 1)
    next k =
        let over : ltb (get_or left p 0) need ≡ true = lt-ltb (get_or left p 0) need (omega (arith, s.more)) in
        let step : behind need (drop p left) ≡ suc (behind n (drop (suc p) left)) = rw (cons, over, s.more) in
        let on : onward need (drop p left) ≡ onward n (drop (suc p) left) = rw (cons, over, s.more) in
        let give_on : give need (drop p left) ≡ v ∷ give n (drop (suc p) left) = rw (cons, over, s.more, s.share) in
        record {
          below = omega (arith, s.low);
          row_long = length-set row p v ∙ g.row_long;
          left_long = length-set left p u ∙ g.left_long;
          pointer = rw (add-one p, after) (omega (arith, g.pointer, step));
          kept = rw (add-one p, after) (g.kept ∙ on);
          given = λ some.
              rw (
                add-one p,
                after,
                take-suc-set row p v (omega (arith, s.low, g.row_long)),
                append_assoc (take p row) (v ∷ []) (give n (drop (suc p) left)),
              ) (g.given s.some ∙ ap (λ (l : List ℕ). take p row ++ l) give_on);
          blank = λ some. rw (add-one p, after) (drop-set-lt (suc p) row p v (omega arith) ∙ blank_after);
          whole = λ none. absurd (omega arith);
        }

    -- the task needs no more: the core may have some left
    pub last : n ≡ 0 → Giving m w b room (set row p v) (set left p u) n p
    last none =
        let fits : ltb (get_or left p 0) need ≡ false = le-ltb (get_or left p 0) need (omega (arith, s.more)) in
        let stay : behind need (drop p left) ≡ 0 = rw (cons, fits) in
        let on : onward need (drop p left) ≡ u ∷ drop (suc p) left = rw (cons, fits, s.rest) in
        let give_on : give need (drop p left) ≡ v ∷ zeros (length (drop (suc p) left)) = rw (cons, fits, s.share) in
        let low : p < length left = omega (arith, s.low, g.left_long) in
        let now : drop p (set left p u) ≡ u ∷ drop (suc p) left =
        drop-cons (set left p u) p 0 (omega (arith, length-set left p u)) ∙ ap₂ (λ (x : ℕ) (l : List ℕ). x ∷ l) (get_or-set_same left p u 0 low) after in
        record {
          below = g.below;
          row_long = length-set row p v ∙ g.row_long;
          left_long = length-set left p u ∙ g.left_long;
          pointer = rw (none, behind_none (drop p (set left p u))) (omega (arith, g.pointer, stay));
          kept = rw (none, onward_none (drop p (set left p u)), now) (g.kept ∙ on);
          given = λ some. absurd (omega arith);
          blank = λ some. absurd (omega arith);
          whole = λ k.
              rw (set_split row p v (omega (arith, s.low, g.row_long)), blank_after) (g.given s.some ∙ ap (λ (l : List ℕ). take p row ++ l) give_on);
        }

  -- it needs no more, or there is no core left
  pub done : (ltb 0 need && ltb p m) ≡ false → (row ≡ zeros b ++ give w room) × (p ≡ b + behind w room) × (drop p left ≡ onward w room)
  done end =
      by_cases (ltb 0 need)
      (λ e.
      let past : m ≤ p = ltb-false p m (rw e at end) in
      let out : drop p left ≡ [] = drop_of_length-le left {i = p} (omega (arith, g.left_long)) in (
        sym
            (g.given (ltb-true 0 need e)
            ∙ ap₂ (λ (a l : List ℕ). a ++ give need l) (take_all p row (omega (arith, g.row_long))) out
            ∙ append-nil row),
        omega (arith, g.pointer, ap (behind need) out),
        out ∙ sym (g.kept ∙ ap (onward need) out),
      ))
      (λ e.
      let none : need ≡ 0 = omega (arith, ltb-false 0 need e) in (
        sym (g.whole none),
        omega (arith, g.pointer, ap (λ (k : ℕ). behind k (drop p left)) none ∙ behind_none (drop p left)),
        sym (g.kept ∙ ap (λ (k : ℕ). onward k (drop p left)) none ∙ onward_none (drop p left)),
      ))
