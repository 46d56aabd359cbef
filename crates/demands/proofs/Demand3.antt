-- Demand 3 over any calls after an accepted list, refused ones included. Tasks and cores are counted from 1, runs from 0.
use Prim.Native.Nat.{ℕ, ◌+◌, ◌*◌, ◌/◌, ◌≤◌, ◌<◌}
use mathlib.Core.Path.{◌≡◌}
use mathlib.Core.List.{List}
use lib.ListN.{length, get_or}
use Rattle.arith.specs.Ceiling.{ceil_div}
use Rattle.admission.specs.Words.{tasks}
use Rattle.planning.specs.declared.Plan.{Plan}
use Rattle.planning.specs.Plan.{plan_of}
use Rattle.planning.specs.Tasks.{task_weight, task_shares, task_share}
use Rattle.turn.specs.Runs.{core_of_run}
use Rattle.dispatch.specs.Record.{record_of, fresh_of}
use Rattle.dispatch.specs.declared.call.Call.{Call}
use Rattle.dispatch.specs.Calls.{cores_of, sent_to, in_a_row}
use Rattle.dispatch.proofs.Started.{started}
use Rattle.dispatch.proofs.Demand3.{core_of_run_lem, of_the_first, of_any_in_a_row, shares_alone}
use Rattle.demands.proofs.Beneath.Drawn.{drawn_task}

-- a list m, xs that is taken, one of its tasks i, and any calls cs on its fresh record
module _ (m : ℕ) (xs : List ℕ) (ok : (fresh_of m xs).refusal.no ≡ 0) (i : ℕ) (from : 1 ≤ i) (to : i ≤ tasks xs) (cs : List Call) where
  -- the plan
  abbrev pl : Plan
  pl = (fresh_of m xs).next.plan

  -- the task's runs: the cores that its accepted releases answer, in order
  abbrev ks : List ℕ
  ks = cores_of i (fresh_of m xs).next cs

  -- its weight, its shares, and its share on core p
  abbrev w : ℕ
  w = task_weight pl i

  abbrev ss : List ℕ
  ss = task_shares pl i

  abbrev s : ℕ → ℕ
  s p = task_share pl i p

  -- the core of its run number c is a function of its shares and c alone
  pub core_by_number : (c : ℕ) → c < length ks → get_or ks c 0 ≡ core_of_run w ss c
  unfolding fresh_of record_of
  core_by_number = core_of_run_lem (plan_of m xs).plan (started m xs ok) i from (drawn_task m xs ok i to) cs

  -- so it is that of any other list's task with the same shares, whatever the other tasks and the calls
  pub by_shares_alone : (m' : ℕ) (xs' : List ℕ) → (fresh_of m' xs').refusal.no ≡ 0 → (i' : ℕ) → 1 ≤ i' → i' ≤ tasks xs' → (cs' : List Call)
      → ss ≡ task_shares (fresh_of m' xs').next.plan i'
      → (c : ℕ) → c < length ks → c < length (cores_of i' (fresh_of m' xs').next cs') → get_or ks c 0 ≡ get_or (cores_of i' (fresh_of m' xs').next cs') c 0
  unfolding fresh_of record_of
  by_shares_alone m' xs' ok' i' from' to' cs' e =
      shares_alone (plan_of m xs).plan (plan_of m' xs').plan (started m xs ok) (started m' xs' ok') i i'
      from (drawn_task m xs ok i to) from' (drawn_task m' xs' ok' i' to') e cs cs'

  -- of its first c runs the number sent to core p is c times its part, rounded down or up
  pub first_runs : (p : ℕ) → 1 ≤ p → (c : ℕ) → c ≤ length ks → (s p * c / w ≤ sent_to p ks c) × (sent_to p ks c ≤ ceil_div (s p * c) w)
  unfolding fresh_of record_of
  first_runs = of_the_first (plan_of m xs).plan (started m xs ok) i from (drawn_task m xs ok i to) cs

  -- of any c in a row it is less than two away
  pub runs_in_a_row : (p : ℕ) → 1 ≤ p → (a c : ℕ) → a + c ≤ length ks
      → (in_a_row p ks a c * w < s p * c + 2 * w) × (s p * c < in_a_row p ks a c * w + 2 * w)
  unfolding fresh_of record_of
  runs_in_a_row = of_any_in_a_row (plan_of m xs).plan (started m xs ok) i from (drawn_task m xs ok i to) cs
