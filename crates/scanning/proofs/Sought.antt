-- Looking for the first unreadable line.
use Prim.Native.Nat.{ℕ, zero, suc, ◌+◌, ◌-◌, ◌≤◌, ◌<◌}
use mathlib.Core.Path.{◌≡◌, refl, sym, ◌∙◌}
use native.Mathlib.Omega.{arith}
use borrow.Author.Tests.{lt-ltb, le-ltb, eq-eqb, ne_eqb, eqb-true, eqb-false}
use Rattle.lists.proofs.Tests.{by_cases}
use lib.Dec.{eqb}
use mathlib.Core.Bool.{true, false}
use Rattle.scanning.specs.Lines.{unreadable_from, unless_zero}
use Rattle.std.specs.declared.option.Option.{Option}
use Rattle.std.specs.declared.option.Option.TheVariants.{Some, None}
use Rattle.std.specs.Option.{is_some}

-- 0 tells none
pub zero_told : {n : ℕ} → n ≡ 0 → unless_zero n ≡ None
unfolding unless_zero
zero_told {n} e = rw (eq-eqb n 0 e)

-- another number tells itself
pub other_told : {n : ℕ} → (n ≡ 0 → ⊥) → unless_zero n ≡ Some n
unfolding unless_zero
other_told {n} p = rw (ne_eqb n 0 p)

-- what is told is the number, and that is another than 0
pub told : {n m : ℕ} → Some m ≡ unless_zero n → (m ≡ n) × (n ≡ 0 → ⊥)
unfolding unless_zero
told {n} {m} e =
    by_cases (eqb n 0)
    (λ p. let no : Some m ≡ None = rw p at e in cc)
    (λ p. let same : Some m ≡ Some n = rw p at e in ((cc), λ z. (let t : eqb n 0 ≡ true = eq-eqb n 0 z in cc)))

-- where nothing is told it is 0
pub untold : {n : ℕ} → None ≡ unless_zero n → n ≡ 0
unfolding unless_zero
untold {n} e = by_cases (eqb n 0) (λ p. eqb-true n 0 p) (λ p. let no : None ≡ Some n = rw p at e in cc)

-- what is told is not 0
pub told_some : {n : ℕ} {t : Option ℕ} → t ≡ unless_zero n → true ≡ is_some t → n ≡ 0 → ⊥
told_some e h z = let k : true ≡ false = rw (e, zero_told z) at h in cc

-- and what is not is
pub told_none : {n : ℕ} {t : Option ℕ} → t ≡ unless_zero n → false ≡ is_some t → n ≡ 0
told_none {n} e h =
    by_cases (eqb n 0) (λ p. eqb-true n 0 p) (λ p. let k : false ≡ true = rw (e, other_told (eqb-false n 0 p)) at h in cc)

module _ (next : ℕ → ℕ) (n at : ℕ) where
  -- at the end of the text no line is left
  none_left : (f line : ℕ) → n ≤ at → unreadable_from next f n line at ≡ 0
  unfolding unreadable_from
  none_left zero line h = refl
  none_left (suc f) line h = rw (le-ltb at n h)

  module _ (f g : ℕ) (e : f ≡ suc g) (h : at < n) (line : ℕ) where
    -- an unreadable line is the first
    this_line : next at ≡ 0 → unreadable_from next f n line at ≡ line
    unfolding unreadable_from
    this_line p = rw (e, lt-ltb at n h, eq-eqb (next at) 0 p)

    -- after one that can be read the later ones decide
    later_line : (next at ≡ 0 → ⊥) → unreadable_from next f n line at ≡ unreadable_from next g n (line + 1) (next at)
    unfolding unreadable_from
    later_line p = rw (e, lt-ltb at n h, ne_eqb (next at) 0 p)

-- while the first unreadable line is looked for: `line` stands at a place, and from there on it is the same; `start` is the first line
pub record Sought (next : ℕ → ℕ) (n start from line at : ℕ) : Type 0 where
  pub ahead : line ≤ at + start
  pub above : start ≤ line
  pub same : unreadable_from next n n start from ≡ unreadable_from next (n + start - line) n line at

-- at first it is the first line
pub first : (next : ℕ → ℕ) (n start from : ℕ) → Sought next n start from start from
first next n start from = let e : n + start - start ≡ n = omega arith in record { ahead = omega arith; above = omega arith; same = rw e refl }

module _ (next : ℕ → ℕ) (n start from line at : ℕ) (h : Sought next n start from line at) where
  -- a line that can be read is passed
  pub later : {place : ℕ} → at < n → next at ≡ place → at < place → Sought next n start from (line + 1) place
  later {place} k p q =
      let e : n + start - line ≡ suc (n + start - (line + 1)) = omega (arith, h.ahead) in
      let z : next at ≡ 0 → ⊥ = λ x. omega (arith, x, p, q) in
      let r : unreadable_from next (n + start - (line + 1)) n (line + 1) (next at) ≡ unreadable_from next (n + start - (line + 1)) n
      (line + 1) place = rw p refl in
      record { ahead = omega (arith, h.ahead); above = omega (arith, h.above); same = h.same ∙ later_line next n at _ _ e k line z ∙ r }

  -- one that cannot is the first
  pub here : at < n → next at ≡ 0 → unreadable_from next n n start from ≡ line
  here k p =
      let e : n + start - line ≡ suc (n + start - (line + 1)) = omega (arith, h.ahead) in
      h.same ∙ this_line next n at _ _ e k line p

  -- at the end there is none
  pub ended : n ≤ at → unreadable_from next n n start from ≡ 0
  ended k = h.same ∙ none_left next n at _ line k

  -- where lines are counted from 1 or more, it is told
  pub here_told : 0 < start → at < n → next at ≡ 0 → Some line ≡ unless_zero (unreadable_from next n n start from)
  here_told z k p = rw (here k p) (sym (other_told (λ e. omega (arith, e, z, h.above))))

  pub none_told : n ≤ at → None ≡ unless_zero (unreadable_from next n n start from)
  none_told k = sym (zero_told (ended k))
