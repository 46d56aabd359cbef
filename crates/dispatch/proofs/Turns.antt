-- A task's counts and place are those after its accepted releases: each release is one turn more, and no other call touches them.
use Prim.Native.Nat.{ℕ, suc, ◌-◌, ◌≤◌, ◌<◌}
use mathlib.Core.Path.{◌≡◌, refl, ap, ◌∙◌}
use mathlib.Core.Logic.{◌⊎◌, inl, inr}
use mathlib.Core.Bool.{Bool, true, false, cond}
use mathlib.Core.List.{List, [], ◌∷◌}
use native.Mathlib.Decide.{ℕ_discrete}
use native.Mathlib.Omega.{arith}
use lib.Dec.{eqb}
use lib.ListN.{length, get_or}
use lib.Seq.{get_or-set_same, get_or-set_other}
use borrow.Author.Tests.{eq-eqb, ne_eqb}
use Rattle.units.specs.declared.ticks.Ticks.{Ticks}
use Rattle.planning.specs.declared.Line.{Line}
use Rattle.planning.specs.declared.Plan.{Plan}
use Rattle.planning.specs.Plan.{no_line, row_of}
use Rattle.turn.specs.declared.Turn.{Turn}
use Rattle.turn.specs.Runs.{turn_after as after_runs, core_of_run}
use Rattle.task_state.specs.declared.State.{State}
use Rattle.task_state.specs.State.{fresh_state, no_state}
use Rattle.task_state.specs.Due.{release_at}
use Rattle.task_state.specs.Runs.{turn_at, with_run, taken_run, without_run}
use Rattle.dispatch.specs.declared.Record.{Record}
use Rattle.dispatch.specs.declared.call.Call.{Call}
use Rattle.dispatch.specs.declared.call.Call.TheVariants.{Release, Finish, Look}
use Rattle.dispatch.specs.Record.{line_at, state_at, moved}
use Rattle.dispatch.specs.Refusals.{release_refusal, finish_refusal, look_refusal}
use Rattle.dispatch.specs.Finish.{finish_of}
use Rattle.dispatch.specs.Look.{look_of}
use Rattle.dispatch.specs.Shape.{Good}
use Rattle.dispatch.specs.Calls.{answered_of, step, core_by}
use Rattle.dispatch.proofs.Records.{task_in}
use Rattle.dispatch.proofs.Passed.{release_passed}
use Rattle.dispatch.proofs.Answers.{release_answer, release_refused, finish_refused, look_refused, release_taken, finish_taken, look_taken}
use Rattle.dispatch.proofs.Always.{step_good, step_plan}

-- counts and place after n runs
pub record At (ln : Line) (st : State) (n : ℕ) : Type 0 where
  pub counts : st.counts ≡ (after_runs ln.weight.0 (row_of ln) n).counts
  pub place : st.place ≡ (after_runs ln.weight.0 (row_of ln) n).place

-- none at first
pub at_first : (ln : Line) → At ln fresh_state 0
unfolding fresh_state after_runs
at_first ln = record { counts = refl; place = refl }

module _ (ln : Line) (st : State) (n : ℕ) (a : At ln st n) where
  -- the next turn is the one after n runs
  turn_next : turn_at ln st ≡ after_runs ln.weight.0 (row_of ln) (suc n)
  unfolding after_runs
  turn_next = rw (a.counts, a.place)

  -- the core of a release
  pub at_core : (turn_at ln st).core ≡ core_of_run ln.weight.0 (row_of ln) n
  unfolding core_of_run
  at_core = ap (λ (r : Turn). r.core) turn_next

  -- after it
  pub at_release : (t : ℕ) → At ln (with_run ln st t) (suc n)
  unfolding with_run
  at_release t = record { counts = ap (λ (r : Turn). r.counts) turn_next; place = ap (λ (r : Turn). r.place) turn_next }

  -- after a finish
  pub at_finish : At ln (without_run st) n
  unfolding without_run
  at_finish = record { counts = a.counts; place = a.place }

-- a good record whose task i, from 1, of line ln, has had n runs
pub record Here (i : ℕ) (ln : Line) (r : Record) (n : ℕ) : Type 0 where
  pub good : Good r
  pub from : 0 < i
  pub to : i ≤ r.plan.count
  pub line : line_at r (i - 1) ≡ ln
  pub turns : At ln (state_at r (i - 1)) n

-- no core is the answer to a refused release, whatever its task
none_either : (b : Bool) → ◌≡◌ {A = List ℕ} (cond b [] []) []
none_either true = refl
none_either false = refl

-- a call answers no core for task i and leaves its turns, or the core of its run number n and is one turn more
abbrev pub Next : ℕ → Line → Record → ℕ → Call → Type 0
Next i ln r n c =
    ((core_by i r c ≡ []) × Here i ln (step r c) n)
    ⊎ ((core_by i r c ≡ core_of_run ln.weight.0 (row_of ln) n ∷ []) × Here i ln (step r c) (suc n))

module _ (i : ℕ) (ln : Line) (r : Record) (n : ℕ) (h : Here i ln r n) where
  -- the next record is good and has the same lines
  here_on : (c : Call) (m : ℕ) → At ln (state_at (step r c) (i - 1)) m → Here i ln (step r c) m
  here_on c m a = record {
    good = step_good r c h.good;
    from = h.from;
    to = rw (step_plan r c) h.to;
    line = ap (λ (pl : Plan). get_or pl.lines (i - 1) no_line) (step_plan r c) ∙ h.line;
    turns = a;
  }

  -- its state is there
  inside : i - 1 < length r.states
  inside = omega (arith, task_in r h.good (i - 1) (omega (arith, h.from, h.to)), h.good.shaped.states)

  -- a look leaves its turns
  look_at : (k t : ℕ) → At ln (state_at (look_of r k t).next (i - 1)) n
  look_at k t = go (ℕ_discrete (look_refusal r k t) 0)
    where
      go : Dec (look_refusal r k t ≡ 0) → At ln (state_at (look_of r k t).next (i - 1)) n
      go (yes e) = rw (look_taken r k t refl e refl) h.turns
      go (no z) = rw (look_refused r k t refl z) h.turns

  -- a call that moves another task's state does too
  other_at : (j t : ℕ) (st : State) → (i - 1 ≡ j → ⊥) → At ln (state_at (moved r j st t) (i - 1)) n
  other_at j t st d = rw (get_or-set_other r.states j (i - 1) st no_state d) h.turns

  -- and so does a finish
  finish_at : (j t : ℕ) → At ln (state_at (finish_of r j t).next (i - 1)) n
  finish_at j t = go (ℕ_discrete (finish_refusal r j t) 0) (ℕ_discrete (i - 1) (j - 1))
    where
      go : Dec (finish_refusal r j t ≡ 0) → Dec (i - 1 ≡ j - 1) → At ln (state_at (finish_of r j t).next (i - 1)) n
      go (no z) d = rw (finish_refused r j t refl z) h.turns
      go (yes e) (no d) = rw (finish_taken r j t refl e refl refl) (other_at (j - 1) t (without_run (state_at r (j - 1))) d)
      go (yes e) (yes d) =
          rw (finish_taken r j t refl e refl refl, ← d, get_or-set_same r.states (i - 1) (without_run (state_at r (i - 1))) no_state inside)
          (at_finish ln (state_at r (i - 1)) n h.turns)

  -- a release
  release_next : (j : ℕ) (t : Ticks) → Next i ln r n (Release j t)
  unfolding taken_run
  release_next j t = go (ℕ_discrete (release_refusal r j t.0) 0) (ℕ_discrete j i)
    where
      go : Dec (release_refusal r j t.0 ≡ 0) → Dec (j ≡ i) → Next i ln r n (Release j t)
      go (no z) d = inl (
        rw (release_answer r j t.0, ne_eqb (release_refusal r j t.0) 0 z) (none_either (eqb j i)),
        here_on (Release j t) n (rw (step, answered_of, release_refused r j t.0 refl z) h.turns),
      )
      go (yes e) (no d) = inl (
        rw (ne_eqb j i d),
        here_on (Release j t) n
            (rw (step, answered_of, release_taken r j t.0 refl e refl)
            (other_at (j - 1) t.0 (with_run (line_at r (j - 1)) (state_at r (j - 1)) (release_at (line_at r (j - 1)) (state_at r (j - 1)) t.0))
            (λ q. d (omega (arith, (release_passed r j t.0 e).0.from, h.from))))),
      )
      go (yes e) (yes d) = inr (
        rw (eq-eqb j i d, release_answer r j t.0, eq-eqb (release_refusal r j t.0) 0 e, release_taken r j t.0 refl e refl, d, h.line)
            (ap (λ (k : ℕ). k ∷ []) (at_core ln (state_at r (i - 1)) n h.turns)),
        here_on (Release j t) (suc n)
            (let at = release_at (line_at r (i - 1)) (state_at r (i - 1)) t.0 in
            let st = with_run (line_at r (i - 1)) (state_at r (i - 1)) at in
            rw (step, answered_of, release_taken r j t.0 refl e refl, d, get_or-set_same r.states (i - 1) st no_state inside, h.line)
            (at_release ln (state_at r (i - 1)) n h.turns (release_at ln (state_at r (i - 1)) t.0))),
      )

  -- every call
  pub next : (c : Call) → Next i ln r n c
  next (Release j t) = release_next j t
  next (Finish j t) = inl (refl, here_on (Finish j t) n (finish_at j t.0))
  next (Look k t) = inl (refl, here_on (Look k t) n (look_at k t.0))
