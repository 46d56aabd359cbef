-- Each core has its part of a task's runs: of the first c, of any c in a row, and of a whole cycle.
use Prim.Native.Nat.{ℕ, suc, ◌+◌, ◌*◌, ◌/◌, ◌≤◌, ◌<◌}
use mathlib.Core.Path.{◌≡◌, ap, ◌∙◌}
use mathlib.Core.List.{List}
use native.Mathlib.Nat.{div-lt_iff_lt-mul, lt_of_mul-lt-mul_right, le_refl}
use native.Mathlib.Omega.{arith}
use lib.ListN.{length, get_or, take}
use borrow.Author.Tests.{lt-ltb}
use Rattle.units.specs.Limits.{cores_limit}
use Rattle.lists.specs.Lists.{total, parts, first_part, bit}
use Rattle.lists.proofs.Lists.{parts_none}
use Rattle.lists.proofs.Parts.{parts_split, first_is}
use Rattle.arith.specs.Ceiling.{ceil_div}
use Rattle.arith.proofs.Rounding.{ceil_least}
use Rattle.turn.proofs.Choice.{Picked, open_share, choice}
use Rattle.turn.proofs.Counting.{turn_core}
use Rattle.turn.specs.Runs.{turn_after, core_of_run}
use Rattle.turn.proofs.Sent.{sent}
use Rattle.turn.proofs.Pace.{pace_behind}
use Rattle.turn.proofs.Cycle.{state}

module _ (w : ℕ) (ss : List ℕ) (pos : 0 < w) (shares : total ss ≡ w) (long : length ss ≡ cores_limit) where
  -- of the first c runs a core has had less than one more or less than its part
  pub near : (c p : ℕ) → (sent w ss (suc p) c * w < get_or ss p 0 * c + w) × (get_or ss p 0 * c < sent w ss (suc p) c * w + w)
  near c p =
      let s = state w ss pos shares long c in
      let x = get_or ss p 0 in
      let all : (s.cycles * w + (turn_after w ss c).place) * x ≡ c * x = ap (λ (n : ℕ). n * x) s.number in
      let here : sent w ss (suc p) c * w ≡ (s.cycles * x + get_or (turn_after w ss c).counts p 0) * w = ap (λ (n : ℕ). n * w) (s.runs p) in
      let low = s.pace.ahead p in
      let high = pace_behind w (turn_after w ss c).place ss (turn_after w ss c).counts pos s.pace p in
      (omega arith, omega arith)

  -- that is, its part rounded down or up
  pub rounded : (c p : ℕ) → (get_or ss p 0 * c / w ≤ sent w ss (suc p) c) × (sent w ss (suc p) c ≤ ceil_div (get_or ss p 0 * c) w)
  rounded c p =
      let x = get_or ss p 0 * c in
      let n = near c p in
      let low : x / w < sent w ss (suc p) c + 1 = (div-lt_iff_lt-mul pos).1 (omega arith) in
      let top : x ≤ ceil_div x w * w = (ceil_least x w (ceil_div x w) pos).0 (le_refl _) in
      let high : sent w ss (suc p) c < ceil_div x w + 1 = lt_of_mul-lt-mul_right w (omega arith) in
      (omega arith, omega arith)

  -- of any c runs in a row after a, x of them, less than two away from its part
  pub in_a_row : (a c p x : ℕ) → sent w ss (suc p) (a + c) ≡ sent w ss (suc p) a + x → (x * w < get_or ss p 0 * c + 2 * w) × (get_or ss p 0 * c < x * w + 2 * w)
  in_a_row a c p x e =
      let all : sent w ss (suc p) (a + c) * w ≡ (sent w ss (suc p) a + x) * w = ap (λ (n : ℕ). n * w) e in
      let before = near a p in
      let turn_after = near (a + c) p in
      (omega arith, omega arith)

  -- of w runs exactly its share, and so of any number of cycles
  pub whole : (q p : ℕ) → sent w ss (suc p) (q * w) ≡ q * get_or ss p 0
  whole q p =
      let n = near (q * w) p in
      let high : sent w ss (suc p) (q * w) < q * get_or ss p 0 + 1 = lt_of_mul-lt-mul_right w (omega arith) in
      let low : q * get_or ss p 0 < sent w ss (suc p) (q * w) + 1 = lt_of_mul-lt-mul_right w (omega arith) in
      omega arith

  -- the core of a run is the one that the search picks with the counts of its cycle
  pub run_picked : (c : ℕ) → (j : ℕ) × (core_of_run w ss c ≡ suc j) × Picked w (turn_after w ss c).place ss (turn_after w ss c).counts cores_limit j
  unfolding core_of_run turn_after
  run_picked c =
      let p = (state w ss pos shares long c).pace in
      let x = choice w (turn_after w ss c).place ss (turn_after w ss c).counts pos shares p.all p.same in
      (x.0, turn_core w (turn_after w ss c).place ss (turn_after w ss c).counts ∙ x.1, rw long at x.2)

  -- every run of a task with one positive share goes to its core
  pub fixed : parts ss ≡ 1 → (c : ℕ) → core_of_run w ss c ≡ first_part ss + 1
  fixed e c =
      let x = run_picked c in
      let h : 0 < get_or ss x.0 0 = open_share w (turn_after w ss c).place ss (turn_after w ss c).counts x.0 x.2.opened in
      let none = parts_none (take x.0 ss) (omega (arith, parts_split ss x.0, ap bit (lt-ltb 0 (get_or ss x.0 0) h))) in
      omega (arith, x.1, first_is ss x.0 h none)
