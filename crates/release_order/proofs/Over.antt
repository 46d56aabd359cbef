-- Over any calls from a good record: when a task's accepted releases are released, and the order of its stored runs.
use Prim.Native.Nat.{ℕ, ◌+◌, ◌-◌, ◌≤◌, ◌<◌}
use mathlib.Core.Path.{◌≡◌, refl, sym, ap, ◌∙◌, subst}
use mathlib.Core.List.{List, [], ◌∷◌, ◌++◌}
use native.Mathlib.Omega.{arith}
use lib.Dec.{ltb}
use borrow.Author.Tests.{ltb-true, ltb-false, eq-eqb, ne_eqb}
use Rattle.lists.proofs.Tests.{by_cases}
use Rattle.planning.specs.declared.Line.{Line}
use Rattle.planning.specs.declared.Plan.{Plan}
use Rattle.planning.specs.Tasks.{task_line}
use Rattle.task_state.specs.declared.State.{State}
use Rattle.task_state.specs.Due.{release_at}
use Rattle.task_state.specs.Runs.{with_run, without_run}
use Rattle.state_rules.proofs.Facts.{facts}
use Rattle.task_state.proofs.Passed.{has_room}
use Rattle.dispatch.specs.declared.Record.{Record}
use Rattle.dispatch.specs.declared.call.Call.{Call}
use Rattle.dispatch.specs.Shape.{Good}
use Rattle.dispatch.specs.Calls.{step, after}
use Rattle.dispatch.specs.Given.{task_state}
use Rattle.dispatch.proofs.Always.{step_good, step_plan}
use Rattle.dispatch.proofs.Records.{task_shaped, task_sound}
use Rattle.release_order.specs.Releases.{Came, came_by, came_of, After, none, at_once, held, FromFirst, first}
use Rattle.release_order.proofs.Touched.{one, Touched, stays, comes, ends, touched}
use Rattle.release_order.proofs.InOrder.{InOrder, with_order, without_order}

-- a good record, one of whose tasks is i, of line ln
pub record Task (i : ℕ) (ln : Line) (r : Record) : Type 0 where
  pub good : Good r
  pub from : 0 < i
  pub to : i ≤ r.plan.count
  pub line : task_line r.plan i ≡ ln

module _ (i : ℕ) (ln : Line) where
  -- after a call it is one too
  task_on : (r : Record) (c : Call) → Task i ln r → Task i ln (step r c)
  task_on r c h = record {
    good = step_good r c h.good;
    from = h.from;
    to = rw (step_plan r c) h.to;
    line = ap (λ (pl : Plan). task_line pl i) (step_plan r c) ∙ h.line;
  }

  -- a call keeps the order of the task's runs
  step_order : (r : Record) (c : Call) → Task i ln r → InOrder ln (task_state r i) → InOrder ln (task_state (step r c) i)
  step_order r c h o = go (touched i r h.good h.from c)
    where
      here : i - 1 < r.plan.count
      here = omega (arith, h.from, h.to)

      go : Touched i r c → InOrder ln (task_state (step r c) i)
      go (stays e s) = rw s o
      go (ends e l s) = rw s (without_order ln (task_state r i) o)
      go (comes t e p s) =
          let st = task_state r i in
          let f = facts (task_line r.plan i) st (task_sound r h.good (i - 1) here) in
          let room = has_room (task_line r.plan i) st t p f.few in
          subst (λ (q : State). InOrder ln q) (sym (s ∙ ap (λ (l : Line). with_run l st (release_at l st t)) h.line))
          (with_order ln st o t (task_shaped r h.good (i - 1) here) room)

  -- and so do any calls
  pub calls_order : (r : Record) (cs : List Call) → Task i ln r → InOrder ln (task_state r i) → InOrder ln (task_state (after r cs) i)
  calls_order r [] h o = o
  calls_order r (c ∷ cs) h o = calls_order (step r c) cs (task_on r c h) (step_order r c h o)

  -- the period T
  abbrev T : ℕ
  T = ln.period.0

  -- releases that come after what the state says of the last one
  abbrev pub Follows : State → List Came → Type 0
  Follows st xs = (st.had ≡ 1 → After T st.last.0 xs) × ((st.had ≡ 1 → ⊥) → FromFirst T xs)

  -- one more, whose release time is x, before those that come after x
  one_more : (st : State) (t x : ℕ) (rest : List Came) → x ≡ release_at ln st t → After T x rest → Follows st (one t x ++ rest)
  one_more st t x rest q a = (
    λ h. by_cases (ltb t (st.last.0 + T))
        (λ e.
        let s : x ≡ st.last.0 + T = q ∙ rw (eq-eqb st.had 1 h, e) in
        subst (λ (y : ℕ). After T st.last.0 (one t y ++ rest)) (sym s)
        (held (ltb-true t (st.last.0 + T) e) (subst (λ (y : ℕ). After T y rest) s a)))
        (λ e.
        let s : x ≡ t = q ∙ rw (eq-eqb st.had 1 h, e) in
        subst (λ (y : ℕ). After T st.last.0 (one t y ++ rest)) (sym s)
        (at_once (ltb-false t (st.last.0 + T) e) (subst (λ (y : ℕ). After T y rest) s a))),
    λ n.
        let s : x ≡ t = q ∙ rw (ne_eqb st.had 1 n) in
        subst (λ (y : ℕ). FromFirst T (one t y ++ rest)) (sym s) (first (subst (λ (y : ℕ). After T y rest) s a)),
  )

  -- over any calls
  pub follow : (cs : List Call) (r : Record) → Task i ln r → Follows (task_state r i) (came_of i r cs)
  unfolding with_run without_run
  follow [] r h = (λ e. none, λ n. none)
  follow (c ∷ cs) r h = go (follow cs (step r c) (task_on r c h)) (touched i r h.good h.from c)
    where
      st : State
      st = task_state r i

      rest : List Came
      rest = came_of i (step r c) cs

      go : Follows (task_state (step r c) i) rest → Touched i r c → Follows st (came_by i r c ++ rest)
      go f (stays e s) = rw (e, ← s) f
      go f (ends e l s) = rw e (rw s at f)
      go f (comes t e p s) =
          let x = release_at (task_line r.plan i) st t in
          let same : x ≡ release_at ln st t = ap (λ (l : Line). release_at l st t) h.line in
          rw e (one_more st t x rest same ((rw s at f).0 refl))
