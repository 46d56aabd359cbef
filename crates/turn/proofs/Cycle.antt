-- After any number of runs: so many whole cycles, and the runs of the cycle since.
use Prim.Native.Nat.{ℕ, zero, suc, ◌+◌, ◌*◌, ◌/◌, ◌%◌, ◌<◌}
use mathlib.Core.Path.{◌≡◌, refl, sym, ap, ◌∙◌}
use mathlib.Core.List.{List}
use native.Mathlib.Nat.{mod-eq_of_lt, mod_self, mul-add-mod_self_right, div-add-mod', div-eq_of_lt-le, add-zero}
use native.Mathlib.Decide.{ℕ_discrete}
use native.Mathlib.Omega.{arith}
use borrow.Author.Tests.{eq-eqb, ne_eqb, eqb-true, eqb-false}
use lib.Dec.{eqb}
use lib.ListN.{length, get_or}
use lib.Seq.{get_or-set_same, get_or-set_other, ext_get_or}
use Rattle.units.specs.Limits.{cores_limit}
use Rattle.lists.specs.Lists.{total, zeros, bit}
use Rattle.lists.proofs.Tests.{by_cases}
use Rattle.lists.proofs.Lists.{get_or_le_sum, zeros_at}
use Rattle.turn.specs.declared.Turn.{Turn}
use Rattle.turn.specs.Turn.{more, counted, turn_of, next_turn}
use Rattle.turn.proofs.Choice.{choice}
use Rattle.turn.specs.Runs.{turn_after, core_of_run}
use Rattle.turn.proofs.Sent.{sent}
use Rattle.turn.proofs.Pace.{Pace, pace_start, pace_more, pace_whole}

-- what is known of counts and place after c runs, f p of them on core p + 1
pub record State (w : ℕ) (ss : List ℕ) (c : ℕ) (r : Turn) (f : ℕ → ℕ) : Type 0 where
  pub cycles : ℕ
  pub number : cycles * w + r.place ≡ c
  pub below : r.place < w
  pub pace : Pace w r.place ss r.counts
  pub runs : (p : ℕ) → f p ≡ cycles * get_or ss p 0 + get_or r.counts p 0

-- a run more of core j + 1 is in its count
more_at_lem : (ns : List ℕ) (j p : ℕ) → j < length ns → get_or (more ns j) p 0 ≡ get_or ns p 0 + bit (eqb (suc j) (suc p))
more_at_lem ns j p l = go (ℕ_discrete p j)
  where
    go : Dec (p ≡ j) → get_or (more ns j) p 0 ≡ get_or ns p 0 + bit (eqb (suc j) (suc p))
    go (yes e) = rw (e, get_or-set_same ns j (get_or ns j 0 + 1) 0 l, eq-eqb (suc j) (suc j) refl)
    go (no n) = rw (get_or-set_other ns j p (get_or ns j 0 + 1) 0 n, ne_eqb (suc j) (suc p) (λ e. n (omega arith)), add-zero)

module _ (w : ℕ) (ss : List ℕ) (pos : 0 < w) (shares : total ss ≡ w) (long : length ss ≡ cores_limit) where
  -- a fresh plan
  fresh_pace : Pace w 0 ss (zeros cores_limit)
  fresh_pace = rw long at (pace_start w ss pos shares)

  -- a run more
  next : (c : ℕ) (r : Turn) (f : ℕ → ℕ) → State w ss c r f → State w ss (suc c) (next_turn w ss r) (λ p. f p + bit (eqb (next_turn w ss r).core (suc p)))
  unfolding turn_of counted
  next c r f s =
      let x = choice w r.place ss r.counts pos shares s.pace.all s.pace.same in
      let pace = pace_more w r.place ss r.counts pos shares s.pace x.0 x.2 in
      let l : x.0 < length r.counts = omega (arith, s.pace.same, x.2.within) in
      rw x.1
      (by_cases (eqb (r.place + 1) w)
      (λ e.
      let last = eqb-true (r.place + 1) w e in
      let whole = pace_whole w ss (more r.counts x.0) pos (rw last at pace) in
      rw e (record {
        cycles = s.cycles + 1;
        number = omega (arith, s.number);
        below = pos;
        pace = fresh_pace;
        runs = λ p. omega (arith, s.runs p, more_at_lem r.counts x.0 p l, ap (λ (l : List ℕ). get_or l p 0) whole, zeros_at cores_limit p);
      }))
      (λ e. rw e (record {
        cycles = s.cycles;
        number = omega (arith, s.number);
        below = omega (arith, s.below, eqb-false (r.place + 1) w e);
        pace = pace;
        runs = λ p. omega (arith, s.runs p, more_at_lem r.counts x.0 p l);
      })))

  -- and so after any number
  pub state : (c : ℕ) → State w ss c (turn_after w ss c) (λ p. sent w ss (suc p) c)
  unfolding turn_after core_of_run sent
  state zero = record { cycles = 0; number = omega arith; below = pos; pace = fresh_pace; runs = λ p. omega (arith, zeros_at cores_limit p) }
  state (suc c) = next c (turn_after w ss c) (λ p. sent w ss (suc p) c) (state c)

  -- the place in the cycle
  pub place_after : (c : ℕ) → (turn_after w ss c).place ≡ c % w
  place_after c =
      let s = state c in
      sym (mod-eq_of_lt s.below) ∙ sym (mul-add-mod_self_right s.cycles w (turn_after w ss c).place) ∙ ap (λ (x : ℕ). x % w) s.number

  -- a core's count is that of its runs since the last whole cycle
  pub counts_after : (c p : ℕ) → c / w * get_or ss p 0 + get_or (turn_after w ss c).counts p 0 ≡ sent w ss (suc p) c
  counts_after c p =
      let s = state c in
      let e : c / w ≡ s.cycles = div-eq_of_lt-le w (omega (arith, s.number)) (omega (arith, s.number, s.below)) in
      rw e (sym (s.runs p))

  -- at place 0 no run is counted
  pub counts_none : (c : ℕ) → (turn_after w ss c).place ≡ 0 → (turn_after w ss c).counts ≡ zeros cores_limit
  counts_none c e =
      let p = (state c).pace in
      ext_get_or 0 (turn_after w ss c).counts (zeros cores_limit) (p.same ∙ long) (λ i l.
      omega (arith, p.all, get_or_le_sum (turn_after w ss c).counts i, zeros_at cores_limit i))

  -- after w runs counts and place start from 0 again
  pub cycle_end : ((turn_after w ss w).counts ≡ zeros cores_limit) × ((turn_after w ss w).place ≡ 0)
  cycle_end = let e = place_after w ∙ mod_self w in (counts_none w e, e)

  -- so each run goes where the run w before it went
  again : (k : ℕ) → turn_after w ss (suc (k + w)) ≡ turn_after w ss (suc k)
  unfolding turn_after
  again zero = let e : 0 + w ≡ w = omega arith in rw (e, cycle_end.0, cycle_end.1)
  again (suc k) = let e : suc k + w ≡ suc (k + w) = omega arith in rw (e, again k)

  -- or any number of cycles before it
  many : (q k : ℕ) → core_of_run w ss (q * w + k) ≡ core_of_run w ss k
  unfolding core_of_run
  many zero k = let e : 0 * w + k ≡ k = omega arith in rw e
  many (suc q) k =
      let e : suc q * w + k ≡ q * w + k + w = omega arith in
      rw e (ap (λ (r : Turn). r.core) (again (q * w + k)) ∙ many q k)

  -- a run's core depends on its place in the cycle alone
  pub core_cyclic : (c : ℕ) → core_of_run w ss c ≡ core_of_run w ss (c % w)
  core_cyclic c = ap (core_of_run w ss) (sym (div-add-mod' c w)) ∙ many (c / w) (c % w)
