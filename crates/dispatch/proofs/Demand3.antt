-- Runs are spread fairly over any calls on the fresh record of any sound plan, refused calls included. Tasks and cores are counted from 1, runs from 0.
use Prim.Native.Nat.{ℕ, suc, ◌+◌, ◌-◌, ◌*◌, ◌/◌, ◌%◌, ◌≤◌, ◌<◌}
use mathlib.Core.Path.{◌≡◌, refl, sym, ap, ap₂, ◌∙◌, subst}
use mathlib.Core.Bool.{true}
use mathlib.Core.List.{List}
use native.Mathlib.Nat.{add-zero, le_refl, div-add-mod'}
use native.Mathlib.Omega.{arith}
use lib.ListN.{length, get_or}
use borrow.Author.Tests.{eqb-true}
use Rattle.units.specs.Limits.{cores_limit}
use Rattle.lists.specs.Lists.{total, parts}
use Rattle.arith.specs.Ceiling.{ceil_div}
use Rattle.task_shares.specs.Movers.{fixed, first_core}
use Rattle.planning.specs.declared.Plan.{Plan}
use Rattle.planning.specs.Tasks.{task_line, task_weight, task_shares, task_share}
use Rattle.turn.specs.Runs.{core_of_run}
use Rattle.turn.proofs.Sent.{sent}
use Rattle.turn.specs.Choice.{RunGoesTo}
use Rattle.turn.proofs.Cycle.{place_after, counts_after}
use Rattle.turn.proofs.Fair.{rounded, in_a_row as row_near, whole, fixed as all_to_one}
use Rattle.turn.proofs.SincePlan.{since_plan}
use Rattle.task_state.specs.declared.State.{State}
use Rattle.dispatch.specs.Record.{record_of, state_at}
use Rattle.dispatch.specs.Shape.{Good}
use Rattle.dispatch.specs.declared.call.Call.{Call}
use Rattle.dispatch.specs.Calls.{after, cores_of, sent_to, in_a_row}
use Rattle.soundness.proofs.Lined.{Lined}
use Rattle.dispatch.proofs.Records.{task_in, task_lined, task_wide}
use Rattle.dispatch.proofs.Fresh.{fresh_at}
use Rattle.dispatch.proofs.Turns.{At, at_first, Here}
use Rattle.dispatch.proofs.Sequence.{here_after, cores_after}
use Rattle.dispatch.proofs.Going.{on_cores}
use Rattle.dispatch.proofs.Counted.{sent_row, sent_are}

module _ (pl : Plan) (g : Good (record_of pl)) (i : ℕ) (from : 0 < i) (to : i ≤ pl.count) where
  -- the task's weight, its shares, and its share on core p
  abbrev w : ℕ
  w = task_weight pl i

  abbrev ss : List ℕ
  ss = task_shares pl i

  abbrev s : ℕ → ℕ
  s p = task_share pl i p

  -- at first the task has had no run
  here_first : Here i (task_line pl i) (record_of pl) 0
  unfolding record_of
  here_first = record {
    good = g;
    from = from;
    to = to;
    line = refl;
    turns = subst (λ st. At (task_line pl i) st 0) (sym (fresh_at pl (i - 1) (task_in (record_of pl) g (i - 1) (omega arith)))) (at_first (task_line pl i));
  }

  -- what is known of its line
  lined : Lined (task_line pl i)
  unfolding record_of
  lined = task_lined (record_of pl) g (i - 1) (omega arith)

  -- it has sixteen shares
  wide : length ss ≡ cores_limit
  unfolding record_of
  wide = task_wide (record_of pl) g (i - 1) (omega arith)

  module _ (cs : List Call) where
    -- the cores of its runs
    abbrev ks : List ℕ
    ks = cores_of i (record_of pl) cs

    -- what it is at after the calls
    abbrev st : State
    st = state_at (after (record_of pl) cs) (i - 1)

    -- the core of its run number c is a function of its shares and c
    pub core_of_run_lem : (c : ℕ) → c < length ks → get_or ks c 0 ≡ core_of_run w ss c
    core_of_run_lem c h = rw add-zero at (cores_after i (task_line pl i) cs (record_of pl) 0 here_first c h)

    -- that core is the one that document 01 names, by all the runs since the plan
    pub goes_to : (c : ℕ) → c < length ks → RunGoesTo w c s (λ p. sent_to p ks c) pl.cores (get_or ks c 0)
    unfolding record_of
    goes_to c h =
        let n : ℕ → ℕ = λ p. sent_to p ks c in
        let p = get_or ks c 0 in
        let all : RunGoesTo w c s n cores_limit p =
        rw (core_of_run_lem c h)
        (since_plan w ss lined.some lined.shares wide c s n
        (λ j. let e : suc j - 1 ≡ j = omega arith in rw e)
        (λ j. sent_are (suc j) w ss ks core_of_run_lem c (omega arith))) in
        on_cores (record_of pl) g i c n p all

    -- every run of a fixed task goes to its core
    pub of_a_fixed : fixed ss ≡ true → (c : ℕ) → c < length ks → get_or ks c 0 ≡ first_core ss + 1
    of_a_fixed e c h = core_of_run_lem c h ∙ all_to_one w ss lined.some lined.shares wide (eqb-true (parts ss) 1 e) c

    -- after the calls it has had as many runs as there are accepted releases
    here_last : Here i (task_line pl i) (after (record_of pl) cs) (length ks)
    here_last = rw add-zero at (here_after i (task_line pl i) cs (record_of pl) 0 here_first)

    -- its place in the record is that in the cycle
    pub place_is : st.place ≡ length ks % w
    place_is = here_last.turns.place ∙ place_after w ss lined.some lined.shares wide (length ks)

    module _ (p : ℕ) (one : 0 < p) where
      sent_is : (c : ℕ) → c ≤ length ks → sent_to p ks c ≡ sent w ss (suc (p - 1)) c
      sent_is c h = let e : suc (p - 1) ≡ p = omega arith in rw e (sent_are p w ss ks core_of_run_lem c h)

      -- of its first c runs core p has its part, rounded down or up
      pub of_the_first : (c : ℕ) → c ≤ length ks → (s p * c / w ≤ sent_to p ks c) × (sent_to p ks c ≤ ceil_div (s p * c) w)
      of_the_first c h = rw (sent_is c h) (rounded w ss lined.some lined.shares wide c (p - 1))

      -- of w runs exactly its share, and so of any number of cycles
      pub of_whole_cycles : (q : ℕ) → q * w ≤ length ks → sent_to p ks (q * w) ≡ q * s p
      of_whole_cycles q h = sent_is (q * w) h ∙ whole w ss lined.some lined.shares wide q (p - 1)

      -- its count in the record is that of the runs since the last whole cycle
      pub count_is : get_or st.counts (p - 1) 0 ≡ in_a_row p ks (length ks / w * w) (length ks % w)
      count_is =
          let q = length ks / w in
          let e : q * w + length ks % w ≡ length ks = div-add-mod' (length ks) w in
          let a = counts_after w ss lined.some lined.shares wide (length ks) (p - 1) in
          let b = ap (sent_to p ks) (sym e) ∙ sent_row p ks (q * w) (length ks % w) in
          rw here_last.turns.counts (omega (arith, a, b, sent_is (length ks) (le_refl (length ks)), of_whole_cycles q (omega (arith, e))))

      -- of c in a row after the first a, x of them on core p, it has less than two more or less than its part
      of_any : (a c x : ℕ) → a + c ≤ length ks → sent_to p ks (a + c) ≡ sent_to p ks a + x → (x * w < s p * c + 2 * w) × (s p * c < x * w + 2 * w)
      of_any a c x h e =
          row_near w ss lined.some lined.shares wide a c (p - 1) x
          (sym (sent_is (a + c) h) ∙ e ∙ ap (λ (n : ℕ). n + x) (sent_is a (omega arith)))

      -- the same, counted
      pub of_any_in_a_row : (a c : ℕ) → a + c ≤ length ks → (in_a_row p ks a c * w < s p * c + 2 * w) × (s p * c < in_a_row p ks a c * w + 2 * w)
      of_any_in_a_row a c h = of_any a c (in_a_row p ks a c) h (sent_row p ks a c)

-- the core of a task's run depends on its shares and the run's number alone: not on the other tasks, the plan or the calls
pub shares_alone : (pl pl' : Plan) → Good (record_of pl) → Good (record_of pl') → (i i' : ℕ) → 0 < i → i ≤ pl.count → 0 < i' → i' ≤ pl'.count
    → task_shares pl i ≡ task_shares pl' i' → (cs cs' : List Call) (c : ℕ)
    → c < length (cores_of i (record_of pl) cs) → c < length (cores_of i' (record_of pl') cs')
    → get_or (cores_of i (record_of pl) cs) c 0 ≡ get_or (cores_of i' (record_of pl') cs') c 0
shares_alone pl pl' g g' i i' a b a' b' e cs cs' c h h' =
    let w : task_weight pl i ≡ task_weight pl' i' = sym (lined pl g i a b).shares ∙ ap total e ∙ (lined pl' g' i' a' b').shares in
    core_of_run_lem pl g i a b cs c h
    ∙ ap₂ (λ (w : ℕ) (ss : List ℕ). core_of_run w ss c) w e
    ∙ sym (core_of_run_lem pl' g' i' a' b' cs' c h')
