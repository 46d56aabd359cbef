-- The core of a run is the one that document 01 names, counted over all runs since the plan; no other core is.
-- Counting within a cycle comes to the same: a whole cycle gives each core its share, and moves every due place by the runs of the cycle.
use Prim.Native.Nat.{ℕ, zero, suc, ◌+◌, ◌-◌, ◌*◌, ◌≤◌, ◌<◌}
use mathlib.Core.Path.{◌≡◌, ◌∙◌}
use mathlib.Core.Logic.{◌↔◌}
use mathlib.Core.List.{List}
use native.Mathlib.Nat.{add-mul-div_right}
use native.Mathlib.Omega.{arith}
use borrow.Author.Tests.{ltb-true, ltb-false}
use lib.Dec.{ltb}
use lib.ListN.{length, get_or}
use Rattle.units.specs.Limits.{cores_limit}
use Rattle.lists.specs.Lists.{total}
use Rattle.lists.proofs.Tests.{by_cases}
use Rattle.arith.specs.Ceiling.{ceil_div}
use Rattle.turn.specs.Turn.{turn_of}
use Rattle.turn.specs.Inner.{Turnable}
use Rattle.turn.specs.Choice.{Open, due, RunGoesTo}
use Rattle.turn.specs.Runs.{turn_after, core_of_run}
use Rattle.turn.proofs.Sent.{sent}
use Rattle.turn.proofs.Choice.{OpenAt, due_at, Picked, open_share, turn_choice}
use Rattle.turn.proofs.Counting.{turn_core}
use Rattle.turn.proofs.Cycle.{state}
use Rattle.turn.proofs.Fair.{run_picked}

-- a core with n runs of the cycle, x since the plan, is open by one count exactly if it is by the other
open_same : (w t q s n x c : ℕ) → q * w + t ≡ c → x ≡ q * s + n → (x * w < s * (c + 1)) ↔ (n * w < s * (t + 1))
open_same w t q s n x c e f = rw (← e, f) (λ h. omega arith, λ h. omega arith)

-- its due place is that of the cycle, and the runs of the cycles before
due_same : (w q s n x : ℕ) → 0 < s → x ≡ q * s + n → ceil_div ((x + 1) * w) s ≡ ceil_div ((n + 1) * w) s + q * w
due_same w q s n x h f =
    let e : (x + 1) * w + (s - 1) ≡ (n + 1) * w + (s - 1) + q * w * s = rw f (omega arith) in
    rw e (add-mul-div_right ((n + 1) * w + (s - 1)) (q * w) h)

module _ (w t q c : ℕ) (ss ns : List ℕ) (s n : ℕ → ℕ) (number : q * w + t ≡ c)
    (share : (i : ℕ) → s (suc i) ≡ get_or ss i 0) (runs : (i : ℕ) → n (suc i) ≡ q * get_or ss i 0 + get_or ns i 0) where
  -- core i + 1 is open
  opens : (i : ℕ) → Open w c s n (suc i) ↔ OpenAt w t ss ns i
  opens i = rw (share i) (open_same w t q (get_or ss i 0) (get_or ns i 0) (n (suc i)) c number (runs i))

  -- its due place
  dues : (i : ℕ) → OpenAt w t ss ns i → due w s n (suc i) ≡ due_at w ss ns i + q * w
  dues i o = rw (share i) (due_same w q (get_or ss i 0) (get_or ns i 0) (n (suc i)) (open_share w t ss ns i o) (runs i))

  -- the core that is picked within the cycle is the one that the run goes to
  picked_goes : (m j : ℕ) → Picked w t ss ns m j → RunGoesTo w c s n m (suc j)
  picked_goes m j a = record { from = omega arith; to = omega (arith, a.within); opened = (opens j).1 a.opened; least = least; lowest = lowest }
    where
      least : (p : ℕ) → 1 ≤ p → p ≤ m → Open w c s n p → due w s n (suc j) ≤ due w s n p
      least zero f l o = absurd (omega arith)
      least (suc i) f l o = rw (dues j a.opened, dues i ((opens i).0 o)) (omega (arith, a.least i (omega arith) ((opens i).0 o)))

      lowest : (p : ℕ) → 1 ≤ p → p < suc j → Open w c s n p → due w s n (suc j) < due w s n p
      lowest zero f l o = absurd (omega arith)
      lowest (suc i) f l o = rw (dues j a.opened, dues i ((opens i).0 o)) (omega (arith, a.lowest i (omega arith) ((opens i).0 o)))

-- so the core of run number c is the one that document 01 names: n p of the c runs before it went to core p
pub since_plan : (w : ℕ) (ss : List ℕ) → 0 < w → total ss ≡ w → length ss ≡ cores_limit → (c : ℕ) (s n : ℕ → ℕ)
    → ((i : ℕ) → s (suc i) ≡ get_or ss i 0) → ((i : ℕ) → n (suc i) ≡ sent w ss (suc i) c) → RunGoesTo w c s n cores_limit (core_of_run w ss c)
since_plan w ss pos shares long c s n share runs =
    let a = state w ss pos shares long c in
    let x = run_picked w ss pos shares long c in
    rw x.1
    (picked_goes w (turn_after w ss c).place a.cycles c ss (turn_after w ss c).counts s n a.number share (λ i. runs i ∙ a.runs i)
    cores_limit x.0 x.2)

-- so is the core that the turn step answers, by the place and the counts that it is given
pub turn_goes : (w t : ℕ) (ss ns : List ℕ) → Turnable w t ss ns → length ss ≡ cores_limit → length ns ≡ cores_limit → (s n : ℕ → ℕ)
    → ((i : ℕ) → s (suc i) ≡ get_or ss i 0) → ((i : ℕ) → n (suc i) ≡ get_or ns i 0) → RunGoesTo w t s n cores_limit (turn_of w t ss ns).core
turn_goes w t ss ns a wide long s n share runs =
    let x = turn_choice w t ss ns a wide long in
    rw (turn_core w t ss ns, x.1)
    (picked_goes w t 0 t ss ns s n (omega arith) share (λ i. omega (arith, runs i)) cores_limit x.0 x.2)

-- it is the one of the first k cores too, if it is among them
pub goes_among : (w t : ℕ) (s n : ℕ → ℕ) (m k p : ℕ) → k ≤ m → p ≤ k → RunGoesTo w t s n m p → RunGoesTo w t s n k p
goes_among w t s n m k p few to a = record {
  from = a.from;
  to = to;
  opened = a.opened;
  least = λ q f l. a.least q f (omega arith);
  lowest = a.lowest;
}

-- no other core is
pub goes_to_one : (w t : ℕ) (s n : ℕ → ℕ) (m p q : ℕ) → RunGoesTo w t s n m p → RunGoesTo w t s n m q → p ≡ q
goes_to_one w t s n m p q a b =
    by_cases (ltb p q)
    (λ e. absurd (omega (arith, b.lowest p a.from (ltb-true p q e) a.opened, a.least q b.from b.to b.opened)))
    (λ e. by_cases (ltb q p)
    (λ f. absurd (omega (arith, a.lowest q b.from (ltb-true q p f) b.opened, b.least p a.from a.to a.opened)))
    (λ f. omega (arith, ltb-false p q e, ltb-false q p f)))
