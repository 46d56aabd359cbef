-- What is known of a task that waits on a core of a good record, and its key there.
use Prim.Native.Nat.{ℕ, ◌+◌, ◌-◌, ◌≤◌, ◌<◌}
use mathlib.Core.Path.{◌≡◌, ap}
use mathlib.Core.Bool.{true, false}
use mathlib.Core.List.{List}
use native.Mathlib.Omega.{arith}
use lib.ListN.{get_or}
use borrow.Author.Tests.{ltb-true, ltb-false, le-ltb, eqb-true, eq-eqb, lt-ltb}
use Rattle.units.specs.Limits.{tasks_limit}
use Rattle.lists.specs.Lists.{parts, bit}
use Rattle.lists.proofs.Tests.{by_cases, and_left, and_true}
use Rattle.lists.proofs.Lists.{get_or_le_sum, parts_some}
use Rattle.task_shares.specs.Movers.{has, fixed, moves, fixed_on, moves_on, lower, upper}
use Rattle.assignment.proofs.Loads.{movers_row}
use Rattle.task_shares.proofs.Words.{upper_moves}
use Rattle.planning.specs.declared.Line.{Line}
use Rattle.planning.specs.Plan.{row_of}
use Rattle.task_state.specs.declared.State.{State}
use Rattle.task_state.specs.Key.{deadline_of, key_of}
use Rattle.state_rules.proofs.Facts.{facts, unfinished}
use Rattle.task_state.proofs.Waits.{waits_told, told_waits}
use Rattle.dispatch.specs.declared.Record.{Record}
use Rattle.dispatch.specs.Record.{line_at, state_at}
use Rattle.dispatch.specs.Shape.{Good}
use Rattle.dispatch.specs.Choice.{Waits}
use Rattle.dispatch.proofs.SoundFacts.{sound_facts, waits_in}
use Rattle.dispatch.proofs.Records.{task_sound}
use Rattle.dispatch.proofs.Search.{WaitsAt}

-- a task with a share on a core that is not upper or lower there is fixed
row_fixed : (p : ℕ) (row : List ℕ) → has p row ≡ true → upper p row ≡ false → lower p row ≡ false → fixed_on p row ≡ true
row_fixed p row h u l =
    let share = ltb-true 0 (get_or row p 0) h in
    let none : bit (moves_on p row) ≡ 0 = omega (arith, movers_row p row, ap bit u, ap bit l) in
    let still : moves row ≡ false = by_cases (moves row) (λ e. absurd (omega (arith, none, ap bit (and_true (moves row) (has p row) e h)))) (λ e. e) in
    and_true (fixed row) (has p row)
    (eq-eqb (parts row) 1 (omega (arith, ltb-false 1 (parts row) still, parts_some row (omega (arith, get_or_le_sum row p)))))
    h

-- a fixed task does not move
pub fixed_still : (p : ℕ) (row : List ℕ) → fixed_on p row ≡ true → (upper p row ≡ false) × (lower p row ≡ false)
fixed_still p row e =
    let one = eqb-true (parts row) 1 (and_left (fixed row) (has p row) e) in
    let still : moves row ≡ false = le-ltb 1 (parts row) (omega (arith, one)) in
    (rw still, rw still)

-- a lower mover is not upper
pub lower_only : (p : ℕ) (row : List ℕ) → lower p row ≡ true → upper p row ≡ false
lower_only p row l =
    by_cases (upper p row)
    (λ u. absurd (omega (arith, movers_row p row, ap bit (upper_moves p row u), ap bit u, ap bit l)))
    (λ u. u)

-- the keys: 0 of an upper mover, 1 of a lower one, or two more than the deadline
pub data Keyed (ln : Line) (st : State) (k : ℕ) : Type 0 where
  upper_key : upper (k - 1) (row_of ln) ≡ true → key_of ln st k ≡ 0 → Keyed ln st k
  lower_key : lower (k - 1) (row_of ln) ≡ true → key_of ln st k ≡ 1 → Keyed ln st k
  fixed_key : fixed_on (k - 1) (row_of ln) ≡ true → key_of ln st k ≡ 2 + deadline_of st → Keyed ln st k

module _ (ln : Line) (st : State) (k : ℕ) where
  -- so of a task with a share there
  keyed : has (k - 1) (row_of ln) ≡ true → Keyed ln st k
  keyed h =
      by_cases (upper (k - 1) (row_of ln))
      (λ u. upper_key u (rw u))
      (λ u. by_cases (lower (k - 1) (row_of ln)) (λ l. lower_key l (rw (u, l))) (λ l. fixed_key (row_fixed (k - 1) (row_of ln) h u l) (rw (u, l))))

  -- an upper mover has key 0
  pub key_upper : upper (k - 1) (row_of ln) ≡ true → key_of ln st k ≡ 0
  key_upper u = rw u

  -- a mover at most 1
  pub key_mover : moves_on (k - 1) (row_of ln) ≡ true → key_of ln st k ≤ 1
  key_mover m =
      by_cases (upper (k - 1) (row_of ln))
      (λ u. rw u (omega arith))
      (λ u. by_cases (lower (k - 1) (row_of ln))
      (λ l. rw (u, l) (omega arith))
      (λ l. absurd (omega (arith, movers_row (k - 1) (row_of ln), ap bit m, ap bit u, ap bit l))))

  -- a lower one 1
  pub key_lower : lower (k - 1) (row_of ln) ≡ true → key_of ln st k ≡ 1
  key_lower l = rw (lower_only (k - 1) (row_of ln) l, l)

  -- a fixed task its deadline and two
  pub key_fixed : fixed_on (k - 1) (row_of ln) ≡ true → key_of ln st k ≡ 2 + deadline_of st
  key_fixed f = let s = fixed_still (k - 1) (row_of ln) f in rw (s.0, s.1)

module _ (r : Record) (g : Good r) (k i : ℕ) (h : i < tasks_limit) (w : WaitsAt r k i) where
  -- a task that waits has a share on the core
  waits_share : has (k - 1) (row_of (line_at r i)) ≡ true
  waits_share =
      let ln = line_at r i in
      let st = state_at r i in
      let t = waits_told ln st k r.clock.0 w in
      let f = facts ln st (task_sound r g i (waits_in r (sound_facts r g.sound) i k h w)) in
      lt-ltb 0 (get_or (row_of ln) (k - 1) 0) (rw t.there at (unfinished ln st f 0 t.unfinished).share)

  -- and a key there
  pub waits_keyed : Keyed (line_at r i) (state_at r i) k
  waits_keyed = keyed (line_at r i) (state_at r i) k waits_share

module _ (r : Record) (k i : ℕ) where
  -- a task that waits, in words, is one that the search finds waiting
  pub waits_at : Waits r k i → WaitsAt r k (i - 1)
  waits_at w =
      told_waits (line_at r (i - 1)) (state_at r (i - 1)) k r.clock.0
      (record { unfinished = w.unfinished; there = w.there; released = w.released })

  -- and one that it finds waits, if it is one of the N tasks
  pub at_waits : 1 ≤ i → i ≤ r.plan.count → WaitsAt r k (i - 1) → Waits r k i
  at_waits from to w =
      let t = waits_told (line_at r (i - 1)) (state_at r (i - 1)) k r.clock.0 w in
      record { from = from; to = to; unfinished = t.unfinished; there = t.there; released = t.released }
