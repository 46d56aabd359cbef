-- What a sound record's states say clause by clause, and that the clauses say it.
use Prim.Native.Nat.{ℕ, ◌-◌, ◌≤◌, ◌<◌}
use mathlib.Core.Path.{◌≡◌, ap}
use mathlib.Core.Bool.{true, ◌&&◌}
use mathlib.Core.List.{List}
use native.Mathlib.Omega.{arith}
use lib.Dec.{ltb, eqb}
use lib.ListN.{length, get_or, get_or-eq_default}
use borrow.Author.Tests.{ltb-true, ltb-false, eqb-true, eqb-false, eq-eqb}
use Rattle.units.specs.Limits.{cores_limit, tasks_limit, runs_limit}
use Rattle.units.specs.Units.{ticks}
use Rattle.units.specs.declared.ticks.Ticks.{Ticks}
use Rattle.units.proofs.Units.{nums_long}
use Rattle.lists.specs.Lists.{total}
use Rattle.lists.proofs.Tests.{by_cases, and_left, and_right, and_true, or_left, or_right}
use Rattle.lists.proofs.Lists.{get_or_le_sum}
use Rattle.lists.proofs.Below.{all_at, all_from}
use Rattle.planning.specs.Plan.{row_of}
use Rattle.stored_runs.specs.declared.Run.{Run}
use Rattle.task_state.specs.declared.State.{State}
use Rattle.task_state.specs.State.{run_at}
use Rattle.task_state.specs.Shape.{Shaped as StateShaped}
use Rattle.stored_runs.specs.Run.{run_empty}
use Rattle.state_rules.specs.Sound.{run_rule, runs_empty, state_empty}
use Rattle.state_rules.proofs.RunFacts.{from_run_facts}
use Rattle.state_rules.proofs.Facts.{from_facts}
use Rattle.dispatch.specs.declared.Record.{Record}
use Rattle.dispatch.specs.Record.{line_at, state_at}
use Rattle.dispatch.specs.Shape.{Shaped}
use Rattle.dispatch.specs.Sound.{state_ok}
use Rattle.demands.specs.Sound.{NoRun, NoState, Sound}
use Rattle.demands.proofs.Beneath.PlanSound.{none_sum}

-- the numbers of an empty run are 0
no_run : (x : Run) → run_empty x ≡ true → NoRun x
no_run x e =
    let a = eqb x.core 0 in
    let b = eqb x.deadline.0 0 in
    (eqb-true x.core 0 (and_left a b e), eqb-true x.deadline.0 0 (and_right a b e))

-- and a run of such numbers is empty
empty_run : (x : Run) → NoRun x → run_empty x ≡ true
empty_run x n = and_true (eqb x.core 0) (eqb x.deadline.0 0) (eq-eqb x.core 0 n.0) (eq-eqb x.deadline.0 0 n.1)

-- from the n-th run on all are empty, if those of the eight are: there are no others
pub every_run : (st : State) → StateShaped st → (n : ℕ) → ((k : ℕ) → n ≤ k → k < runs_limit → run_empty (run_at st k) ≡ true)
    → (k : ℕ) → n ≤ k → NoRun (run_at st k)
every_run st long n e k h =
    by_cases (ltb k runs_limit)
    (λ t. no_run (run_at st k) (e k h (ltb-true k runs_limit t)))
    (λ t.
    let m = ltb-false k runs_limit t in (
      get_or-eq_default st.cores 0 {n = k} (omega (arith, long.cores)),
      ap (λ (d : Ticks). d.0) (get_or-eq_default st.deadlines (ticks 0) {n = k} (omega (arith, long.deadlines))),
    ))

-- the numbers of a state that is empty are 0
pub empty_state : (st : State) → StateShaped st → state_empty st ≡ true → NoState st
empty_state st long e =
    let a = eqb (total st.counts) 0 in
    let b = eqb st.place 0 in
    let c = eqb st.last.0 0 in
    let d = eqb st.had 0 in
    let f = eqb st.live 0 in
    let e₅ = and_left (a && b && c && d && f) (runs_empty st) e in
    let e₄ = and_left (a && b && c && d) f e₅ in
    let e₃ = and_left (a && b && c) d e₄ in
    let e₂ = and_left (a && b) c e₃ in
    let none = eqb-true (total st.counts) 0 (and_left a b e₂) in
    let all = and_right (a && b && c && d && f) (runs_empty st) e in
    record {
      numbers = (
        eqb-true st.last.0 0 (and_right (a && b) c e₃),
        eqb-true st.place 0 (and_right a b e₂),
        eqb-true st.live 0 (and_right (a && b && c && d) f e₅),
        eqb-true st.had 0 (and_right (a && b && c) d e₄),
      );
      counts = λ p. omega (arith, none, get_or_le_sum st.counts p);
      runs = λ k. every_run st long 0 (λ j h l. all_at runs_limit j (λ i. run_empty (run_at st i)) l all) k (omega arith);
    }

-- and a state of such numbers is empty
pub state_empty_lem : (st : State) → NoState st → state_empty st ≡ true
state_empty_lem st z =
    rw (
      eq-eqb (total st.counts) 0 (none_sum st.counts z.counts),
      eq-eqb st.place 0 z.numbers.1,
      eq-eqb st.last.0 0 z.numbers.0,
      eq-eqb st.had 0 z.numbers.3,
      eq-eqb st.live 0 z.numbers.2,
      all_from runs_limit (λ k. run_empty (run_at st k)) (λ k h. empty_run (run_at st k) (z.runs k)),
    )

-- where a number is positive there is one
within : (xs : List ℕ) (p n : ℕ) → length xs ≡ n → 0 < get_or xs p 0 → p < n
within xs p n e h =
    by_cases (ltb p n)
    (λ t. ltb-true p n t)
    (λ t. absurd (omega (arith, get_or-eq_default xs 0 {n = p} (omega (arith, ltb-false p n t)))))

module _ (r : Record) (long : Shaped r) (x : Sound r) (i : ℕ) where
  -- the rule for a run of a task in use
  run_rule_lem : i < r.plan.count → i < tasks_limit → (k : ℕ) → run_rule (line_at r i) (state_at r i) k ≡ true
  run_rule_lem h l k =
      let run = run_at (state_at r i) k in
      let row = row_of (line_at r i) in
      by_cases (ltb k (state_at r i).live)
      (λ t.
      let m = ltb-true k (state_at r i).live t in
      let on = x.runs i k h m in
      let below = within row (run.core - 1) cores_limit (nums_long (line_at r i).shares cores_limit (long.plan.shares i l)) on.1 in
      rw t (from_run_facts (line_at r i) run (record { from = on.0; to = omega arith; share = on.1; due = x.deadlines i k h m })))
      (λ t. rw t (empty_run run (x.ended i k h (ltb-false k (state_at r i).live t))))

  -- a task in use, or past the N tasks
  pub state_rule : i < tasks_limit → state_ok r.plan r.states i ≡ true
  state_rule l =
      let st = state_at r i in
      let had = eqb st.had 1 in
      let none = eqb st.last.0 0 in
      by_cases (ltb i r.plan.count)
      (λ t.
      let h = ltb-true i r.plan.count t in
      let n = x.ranges i h in
      rw t (from_facts (line_at r i) st (record {
        few = n.live;
        rules = λ k m. run_rule_lem h l k;
        counts = x.counts i h;
        below = x.places i h;
        flag = n.had;
        last = x.last i h;
        had = by_cases had
            (λ u. or_left had none u)
            (λ u. or_right had none (eq-eqb st.last.0 0 (x.unreleased i h (omega (arith, n.had, eqb-false st.had 1 u)))));
      })))
      (λ t. rw t (state_empty_lem st (x.past i (ltb-false i r.plan.count t)).1))
