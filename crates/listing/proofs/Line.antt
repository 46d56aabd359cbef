-- What is written can be read: a task's line of the listing says its number, its line of the plan and its bound.
use Prim.Native.Nat.{ℕ}
use mathlib.Core.Path.{◌≡◌, refl, sym, ap, ◌∙◌}
use mathlib.Core.Bool.{Bool, true, false, cond}
use mathlib.Core.List.{List, [], ◌∷◌, ◌++◌, append_assoc, append-nil, append_cancel_left, head-eq_of_cons-eq, tail-eq_of_cons-eq}
use native.Mathlib.Omega.{arith}
use lib.IntN.{ℤ}
use lib.ListN.{length}
use Rattle.units.proofs.Units.{nums_length}
use Rattle.writing.specs.Ascii.{ascii, newline}
use Rattle.writing.specs.Decimal.{signed_of}
use Rattle.writing.specs.Field.{field, line_end}
use Rattle.task_shares.specs.Movers.{moves}
use Rattle.planning.specs.declared.Line.{Line}
use Rattle.planning.proofs.Agreed.{line_same}
use Rattle.planning.specs.Plan.{row_of}
use Rattle.listing.specs.Listing.{shares_text, head_text, row_text, late_text, task_text}
use Rattle.listing.proofs.Digits.{Stops, field_cut, signed_cut}
use Rattle.listing.proofs.Shares.{up_to_late, shares_cut}

-- the word for a task that moves, or does not
abbrev word : Bool → List ℕ
word b = cond b (ascii " moves") (ascii " fixed")

-- it starts with no digit
word_stops : (b : Bool) (t : List ℕ) → Stops (word b ++ t)
word_stops true t = refl
word_stops false t = refl

-- what follows it
word_cut : (b c : Bool) (t u : List ℕ) → word b ++ t ≡ word c ++ u → t ≡ u
word_cut true true t u e = append_cancel_left (word true) t u e
word_cut false false t u e = append_cancel_left (word false) t u e
word_cut true false t u e = absurd (omega (arith, head-eq_of_cons-eq (tail-eq_of_cons-eq e)))
word_cut false true t u e = absurd (omega (arith, head-eq_of_cons-eq (tail-eq_of_cons-eq e)))

-- a row's word and shares, and the bound after them
row_parts : (xs t : List ℕ) → row_text xs ++ (ascii " late " ++ t) ≡ word (moves xs) ++ up_to_late 1 xs t
unfolding row_text
row_parts xs t = append_assoc (word (moves xs)) (shares_text 1 xs) (ascii " late " ++ t)

-- what stands after a task's head
abbrev after_head : Line → ℤ → List ℕ → List ℕ
after_head a y t = word (moves (row_of a)) ++ up_to_late 1 (row_of a) (signed_of y ++ (newline ∷ t))

-- a task's line in its parts
task_parts : (i : ℕ) (a : Line) (y : ℤ) (t : List ℕ) → task_text i a y ++ t ≡ head_text i a ++ after_head a y t
unfolding task_text late_text
task_parts i a y t =
    append_assoc (head_text i a ++ row_text (row_of a)) (late_text y) t
    ∙ append_assoc (head_text i a) (row_text (row_of a)) (late_text y ++ t)
    ∙ ap (λ (l : List ℕ). head_text i a ++ (row_text (row_of a) ++ (ascii " late " ++ l))) (append_assoc (signed_of y) line_end t)
    ∙ ap (λ (l : List ℕ). head_text i a ++ l) (row_parts (row_of a) (signed_of y ++ (newline ∷ t)))

-- four texts, and what follows them
four : (a b c d t : List ℕ) → (a ++ b ++ c ++ d) ++ t ≡ a ++ (b ++ (c ++ (d ++ t)))
four a b c d t = simp append_assoc

-- what stands after a task's period
abbrev after_period : Line → List ℕ → List ℕ
after_period a t = field " weight " a.weight.0 ++ t

-- after its cost
abbrev after_cost : Line → List ℕ → List ℕ
after_cost a t = field " period " a.period.0 ++ after_period a t

-- after its number
abbrev after_number : Line → List ℕ → List ℕ
after_number a t = field " cost " a.cost.0 ++ after_cost a t

-- a task's head in its parts
head_parts : (i : ℕ) (a : Line) (t : List ℕ) → head_text i a ++ t ≡ field "task " i ++ after_number a t
unfolding head_text
head_parts i a t = four (field "task " i) (field " cost " a.cost.0) (field " period " a.period.0) (field " weight " a.weight.0) t

-- the numbers of two heads, and what follows the heads, agree
record Headed (i j : ℕ) (a b : Line) (t u : List ℕ) : Type 0 where
  number : i ≡ j
  cost : a.cost.0 ≡ b.cost.0
  period : a.period.0 ≡ b.period.0
  weight : a.weight.0 ≡ b.weight.0
  rest : t ≡ u

-- a head's numbers are told from its text, and so is what follows
head_cut : (i j : ℕ) (a b : Line) (t u : List ℕ) → Stops t → Stops u → head_text i a ++ t ≡ head_text j b ++ u → Headed i j a b t u
head_cut i j a b t u p q e =
    let number = field_cut "task " i j (after_number a t) (after_number b u) refl refl (sym (head_parts i a t) ∙ e ∙ head_parts j b u) in
    let cost = field_cut " cost " a.cost.0 b.cost.0 (after_cost a t) (after_cost b u) refl refl number.1 in
    let period = field_cut " period " a.period.0 b.period.0 (after_period a t) (after_period b u) refl refl cost.1 in
    let weight = field_cut " weight " a.weight.0 b.weight.0 t u p q period.1 in
    record { number = number.0; cost = cost.0; period = period.0; weight = weight.0; rest = weight.1 }

-- a task's line is told from a text that starts with it, and so is what follows
pub task_cut : (i j : ℕ) (a b : Line) (y z : ℤ) (t u : List ℕ) → length a.shares ≡ length b.shares
    → task_text i a y ++ t ≡ task_text j b z ++ u → (i ≡ j) × (a ≡ b) × (y ≡ z) × (t ≡ u)
task_cut i j a b y z t u long e =
    let v = signed_of y ++ (newline ∷ t) in
    let w = signed_of z ++ (newline ∷ u) in
    let m = moves (row_of a) in
    let n = moves (row_of b) in
    let r = up_to_late 1 (row_of a) v in
    let s = up_to_late 1 (row_of b) w in
    let parts = sym (task_parts i a y t) ∙ e ∙ task_parts j b z u in
    let head = head_cut i j a b (word m ++ r) (word n ++ s) (word_stops m r) (word_stops n s) parts in
    let wide = nums_length a.shares ∙ long ∙ sym (nums_length b.shares) in
    let row = shares_cut 1 (row_of a) (row_of b) v w wide (word_cut m n r s head.rest) in
    let late = signed_cut y z (newline ∷ t) (newline ∷ u) refl refl row.1 in
    (head.number, line_same a b head.cost head.period head.weight row.0, late.0, tail-eq_of_cons-eq late.1)

-- the listing's line for a task determines its numbers
pub line_determined : (i j : ℕ) (a b : Line) (y z : ℤ) → length a.shares ≡ length b.shares
    → task_text i a y ≡ task_text j b z → (i ≡ j) × (a ≡ b) × (y ≡ z)
line_determined i j a b y z long e =
    let same = task_cut i j a b y z [] [] long (append-nil (task_text i a y) ∙ e ∙ sym (append-nil (task_text j b z))) in
    (same.0, same.1, same.2)
