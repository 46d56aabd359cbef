-- Each run's core and each core's choice are those of document 01, over any calls after an accepted list, refused ones included.
-- Tasks and cores are counted from 1, runs from 0.
use Prim.Native.Nat.{ℕ, ◌+◌, ◌-◌, ◌*◌, ◌/◌, ◌%◌, ◌≤◌, ◌<◌}
use mathlib.Core.Path.{◌≡◌, sym, subst, ◌∙◌}
use mathlib.Core.Logic.{◌↔◌, ◌⊎◌}
use mathlib.Core.Bool.{true}
use mathlib.Core.List.{List}
use lib.ListN.{length, get_or}
use Rattle.units.specs.declared.ticks.Ticks.{Ticks}
use Rattle.units.specs.Units.{ticks}
use Rattle.admission.specs.Words.{tasks}
use Rattle.task_shares.specs.Movers.{fixed, first_core}
use Rattle.planning.specs.declared.Plan.{Plan}
use Rattle.planning.specs.Plan.{plan_of}
use Rattle.planning.specs.Tasks.{task_line, task_weight, task_shares, task_share}
use Rattle.task_state.specs.Due.{release_at}
use Rattle.turn.specs.Choice.{RunGoesTo}
use Rattle.turn.proofs.SincePlan.{goes_to_one}
use Rattle.dispatch.specs.declared.Record.{Record}
use Rattle.dispatch.specs.declared.call.Call.{Call}
use Rattle.dispatch.specs.declared.call.Call.TheVariants.{Release, Look}
use Rattle.dispatch.specs.Calls.{Answer}
use Rattle.dispatch.specs.Calls.Answer.{Released, Looked}
use Rattle.core_choice.specs.declared.Choice.{Choice}
use Rattle.dispatch.specs.Record.{record_of, fresh_of, state_at}
use Rattle.dispatch.specs.Shape.{Good}
use Rattle.dispatch.specs.Calls.{answered_of, call_refusal, after, cores_of, sent_to, in_a_row}
use Rattle.dispatch.specs.Choice.{Waits, deadline_at, FixedOn, LowerOn, UpperOn, GoesFirst, Chosen}
use Rattle.dispatch.specs.Values.{Values, values_of}
use Rattle.dispatch.specs.Look.{choice_of, at_time}
use Rattle.dispatch.proofs.Started.{started}
use Rattle.dispatch.proofs.OneCall.{look_no}
use Rattle.dispatch.proofs.Passed.{look_passed}
use Rattle.dispatch.proofs.Records.{timed_good}
use Rattle.dispatch.proofs.Always.{always_good}
use Rattle.dispatch.proofs.Choice.{choice_chosen, look_exactly}
use Rattle.dispatch.proofs.Values.{chosen_told}
use Rattle.dispatch.proofs.Going.{release_exactly}
use Rattle.dispatch.proofs.Demand3.{goes_to, of_whole_cycles, place_is, count_is, of_a_fixed}
use Rattle.demands.proofs.Beneath.Drawn.{drawn_cores, drawn_task, drawn_good}

-- any sound record, reached from a plan or not
module _ (r : Record) (g : Good r) where
  -- an accepted release answers the core that the turn rule names by the record's place and counts, and the deadline, release time (Early) plus T; and no other
  pub release_answers : (i : ℕ) (t : Ticks) → call_refusal r (Release i t) ≡ 0 → (p : ℕ) (d : Ticks)
      → ((answered_of r (Release i t)).answer ≡ Released p d)
      ↔ (RunGoesTo (task_weight r.plan i) (state_at r (i - 1)).place (task_share r.plan i) (λ q. get_or (state_at r (i - 1)).counts (q - 1) 0)
      r.plan.cores p
      × (d ≡ ticks (release_at (task_line r.plan i) (state_at r (i - 1)) t.0 + (task_line r.plan i).period.0)))
  release_answers = release_exactly r g

  -- an accepted look at core k answers the choice that document 01 describes, in the record with its clock set, and no other
  pub look_answers : (k : ℕ) (t : Ticks) → call_refusal r (Look k t) ≡ 0 → (x : Choice)
      → ((answered_of r (Look k t)).answer ≡ Looked x) ↔ Chosen (at_time r t.0) k x
  look_answers = look_exactly r g

  -- numbers tell the choice: kind 0 where nobody waits, else the task that goes first with its deadline, of kind 1 if fixed, 2 if lower, 3 if upper
  abbrev Tells : Record → ℕ → Values → Type 0
  Tells q k v =
      ((v.kind ≡ 0) × ((i : ℕ) → Waits q k i → ⊥))
      ⊎ (GoesFirst q k v.task
      × (v.deadline ≡ deadline_at q v.task)
      × (((v.kind ≡ 1) × FixedOn q k v.task) ⊎ (((v.kind ≡ 2) × LowerOn q k v.task) ⊎ ((v.kind ≡ 3) × UpperOn q k v.task))))

  -- and so do those of an accepted look
  pub look_numbers : (k : ℕ) (t : Ticks) → call_refusal r (Look k t) ≡ 0 → Tells (at_time r t.0) k (values_of (answered_of r (Look k t)).answer)
  look_numbers k t ok =
      let now = at_time r t.0 in
      let c = choice_chosen now (timed_good r g t.0 (look_passed r k t.0 (sym (look_no r k t) ∙ ok)).limit) k in
      subst (λ (a : Answer). Tells now k (values_of a)) (sym ((look_answers k t ok (choice_of now k)).1 c)) (chosen_told c)

-- a list m, xs that is taken, and any calls cs on its fresh record
module _ (m : ℕ) (xs : List ℕ) (ok : (fresh_of m xs).refusal.no ≡ 0) (cs : List Call) where
  -- the plan, and the record after the calls
  abbrev pl : Plan
  pl = (fresh_of m xs).next.plan

  abbrev r : Record
  r = after (fresh_of m xs).next cs

  -- one of its tasks i
  module _ (i : ℕ) (from : 1 ≤ i) (to : i ≤ tasks xs) where
    -- its runs: the cores that its accepted releases answer, in order
    abbrev ks : List ℕ
    ks = cores_of i (fresh_of m xs).next cs

    -- its weight w, and its share s on core p
    abbrev w : ℕ
    w = task_weight pl i

    abbrev s : ℕ → ℕ
    s p = task_share pl i p

    -- the turn rule names the core of run number c, where t is c, the accepted runs before this one since the plan
    named : (c : ℕ) → c < length ks → RunGoesTo w c s (λ q. sent_to q ks c) m (get_or ks c 0)
    unfolding fresh_of record_of
    named c h =
        subst (λ (k : ℕ). RunGoesTo w c s (λ q. sent_to q ks c) k (get_or ks c 0)) (drawn_cores m xs ok)
        (goes_to (plan_of m xs).plan (started m xs ok) i from (drawn_task m xs ok i to) cs c h)

    -- and it names no other
    pub core_exactly : (c : ℕ) → c < length ks → (p : ℕ) → (get_or ks c 0 ≡ p) ↔ RunGoesTo w c s (λ q. sent_to q ks c) m p
    core_exactly c h p = (
      λ e. subst (λ (k : ℕ). RunGoesTo w c s (λ q. sent_to q ks c) m k) e (named c h),
      λ a. goes_to_one w c s (λ q. sent_to q ks c) m (get_or ks c 0) p (named c h) a,
    )

    -- after w runs each core has had exactly its s, and so after any number of cycles
    pub whole_cycles : (p : ℕ) → 1 ≤ p → (q : ℕ) → q * w ≤ length ks → sent_to p ks (q * w) ≡ q * s p
    unfolding fresh_of record_of
    whole_cycles = of_whole_cycles (plan_of m xs).plan (started m xs ok) i from (drawn_task m xs ok i to) cs

    -- counts and place then start from 0 again: the record has those of the runs since the last whole cycle
    pub place_of_cycle : (state_at r (i - 1)).place ≡ length ks % w
    unfolding fresh_of record_of
    place_of_cycle = place_is (plan_of m xs).plan (started m xs ok) i from (drawn_task m xs ok i to) cs

    pub counts_of_cycle : (p : ℕ) → 1 ≤ p → get_or (state_at r (i - 1)).counts (p - 1) 0 ≡ in_a_row p ks (length ks / w * w) (length ks % w)
    unfolding fresh_of record_of
    counts_of_cycle = count_is (plan_of m xs).plan (started m xs ok) i from (drawn_task m xs ok i to) cs

    -- a fixed task's runs all go to its core
    pub fixed_stays : fixed (task_shares pl i) ≡ true → (c : ℕ) → c < length ks → get_or ks c 0 ≡ first_core (task_shares pl i) + 1
    unfolding fresh_of record_of
    fixed_stays = of_a_fixed (plan_of m xs).plan (started m xs ok) i from (drawn_task m xs ok i to) cs

  -- core k's choice then is the one that document 01 describes, and no other
  pub choice_exactly : (k : ℕ) (t : Ticks) → call_refusal r (Look k t) ≡ 0 → (x : Choice)
      → ((answered_of r (Look k t)).answer ≡ Looked x) ↔ Chosen (at_time r t.0) k x
  choice_exactly = look_answers r (always_good (fresh_of m xs).next cs (drawn_good m xs ok))
