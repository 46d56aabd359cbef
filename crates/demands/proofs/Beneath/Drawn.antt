-- The plan of a list that is taken has the list's cores and tasks, and starts a good record.
use Prim.Native.Nat.{ℕ, ◌≤◌}
use mathlib.Core.Path.{◌≡◌, sym, ap, ◌∙◌, subst}
use mathlib.Core.List.{List}
use Rattle.admission.specs.Words.{tasks}
use Rattle.planning.specs.declared.Plan.{Plan}
use Rattle.planning.specs.Plan.{plan_for}
use Rattle.soundness.proofs.Taken.{plan_number, taken_plan_lem}
use Rattle.dispatch.specs.Record.{record_of, fresh_of}
use Rattle.dispatch.specs.Shape.{Good}
use Rattle.dispatch.proofs.Started.{started}

module _ (m : ℕ) (xs : List ℕ) (ok : (fresh_of m xs).refusal.no ≡ 0) where
  -- its cores are those given
  pub drawn_cores : (fresh_of m xs).next.plan.cores ≡ m
  unfolding fresh_of record_of plan_for
  drawn_cores = ap (λ (pl : Plan). pl.cores) (taken_plan_lem m xs (sym (plan_number m xs) ∙ ok))

  -- its tasks are those of the table
  pub drawn_tasks : (fresh_of m xs).next.plan.count ≡ tasks xs
  unfolding fresh_of record_of plan_for
  drawn_tasks = ap (λ (pl : Plan). pl.count) (taken_plan_lem m xs (sym (plan_number m xs) ∙ ok))

  -- so each of those is there
  pub drawn_task : (i : ℕ) → i ≤ tasks xs → i ≤ (fresh_of m xs).next.plan.count
  drawn_task i h = subst (λ (n : ℕ). i ≤ n) (sym drawn_tasks) h

  -- and its record is good
  pub drawn_good : Good (fresh_of m xs).next
  unfolding fresh_of
  drawn_good = started m xs ok
