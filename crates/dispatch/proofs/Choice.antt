-- A look's choice is the one that document 01 describes, and no other is.
use Prim.Native.Nat.{ℕ, zero, suc, ◌-◌, ◌≤◌, ◌<◌}
use mathlib.Core.Path.{◌≡◌, refl, sym, ap, ◌∙◌, subst}
use mathlib.Core.Logic.{◌↔◌, ◌⊎◌, inl, inr, ⊎_elim}
use mathlib.Core.Bool.{cond, false≢true}
use mathlib.Core.List.{[]}
use native.Mathlib.Decide.{ℕ_discrete}
use native.Mathlib.Omega.{arith}
use lib.Dec.{ltb}
use lib.ListN.{get_or, get_or-map}
use borrow.Author.Tests.{ltb-true, ltb-false, eq-eqb, ne_eqb}
use Rattle.units.specs.Limits.{tasks_limit}
use Rattle.units.specs.declared.ticks.Ticks.{Ticks}
use Rattle.units.specs.Units.{ticks}
use Rattle.lists.proofs.Tests.{by_cases}
use Rattle.task_shares.specs.Movers.{lower, upper}
use Rattle.assignment.proofs.Properties.{upper_found, lower_found}
use Rattle.task_shares.proofs.Words.{upper_moves, lower_moves}
use Rattle.planning.specs.Plan.{no_line, row_of, shares_table}
use Rattle.planning.specs.Tasks.{task_shares}
use Rattle.soundness.proofs.SoundKept.{sound_kept}
use Rattle.dispatch.specs.declared.Record.{Record}
use Rattle.dispatch.specs.declared.call.Call.TheVariants.{Look}
use Rattle.dispatch.specs.Calls.Answer.{Looked}
use Rattle.core_choice.specs.declared.Side.TheVariants.{Upper, Lower}
use Rattle.core_choice.specs.declared.Choice.{Choice}
use Rattle.core_choice.specs.declared.Choice.TheVariants.{Idle, Fixed, Mover}
use Rattle.dispatch.specs.Record.{line_at, state_at}
use Rattle.dispatch.specs.Look.{best_of, choice_for, choice_of, at_time}
use Rattle.dispatch.specs.Shape.{Good}
use Rattle.dispatch.specs.Calls.{answered_of, call_refusal}
use Rattle.dispatch.specs.Choice.{Waits, deadline_at, UpperOn, LowerOn, GoesBefore, mover_first, upper_first, earliest, lowest}
use Rattle.dispatch.specs.Choice.{GoesFirst, Chosen, idle, as_fixed, as_upper, as_lower}
use Rattle.dispatch.proofs.SoundFacts.{sound_facts, waits_in}
use Rattle.dispatch.proofs.Records.{task_in, timed_good}
use Rattle.dispatch.proofs.Passed.{look_passed}
use Rattle.dispatch.proofs.Answers.{look_taken}
use Rattle.dispatch.proofs.OneCall.{look_no}
use Rattle.dispatch.proofs.Search.{key_at, Least, Found, found}
use Rattle.dispatch.proofs.Waiting.{fixed_still, lower_only, Keyed, upper_key, lower_key, fixed_key}
use Rattle.dispatch.proofs.Waiting.{key_upper, key_mover, key_lower, key_fixed, waits_keyed, waits_at, at_waits}

module _ (r : Record) (g : Good r) (k : ℕ) where
  -- a task's row in the table
  row_at : (i : ℕ) → get_or (shares_table r.plan) i [] ≡ row_of (line_at r i)
  row_at i = get_or-map row_of r.plan.lines i no_line

  -- at most one upper mover is on a core
  one_upper : (i j : ℕ) → UpperOn r k i → UpperOn r k j → i - 1 ≡ j - 1
  one_upper i j a b =
      let s = (sound_kept r.plan g.shaped.plan (sound_facts r g.sound).plan).structure in
      sym (upper_found s (k - 1) (i - 1) (rw (row_at (i - 1)) a)) ∙ upper_found s (k - 1) (j - 1) (rw (row_at (j - 1)) b)

  -- and at most one lower
  one_lower : (i j : ℕ) → LowerOn r k i → LowerOn r k j → i - 1 ≡ j - 1
  one_lower i j a b =
      let s = (sound_kept r.plan g.shaped.plan (sound_facts r g.sound).plan).structure in
      sym (lower_found s (k - 1) (i - 1) (rw (row_at (i - 1)) a)) ∙ lower_found s (k - 1) (j - 1) (rw (row_at (j - 1)) b)

  -- of two keys the lesser goes before, or the one of the lower task number at a tie
  by_key : (j i : ℕ) → (j - 1 ≡ i - 1 → ⊥) → Keyed (line_at r (j - 1)) (state_at r (j - 1)) k → Keyed (line_at r (i - 1)) (state_at r (i - 1)) k
      → key_at r k (j - 1) ≤ key_at r k (i - 1) → (i < j → key_at r k (j - 1) < key_at r k (i - 1)) → GoesBefore r k j i
  by_key j i n (upper_key u e) (upper_key v f) l t = absurd (n (one_upper j i u v))
  by_key j i n (upper_key u e) (lower_key v f) l t = upper_first u v
  by_key j i n (upper_key u e) (fixed_key v f) l t = mover_first (upper_moves (k - 1) (row_of (line_at r (j - 1))) u) v
  by_key j i n (lower_key u e) (upper_key v f) l t = absurd (omega arith)
  by_key j i n (lower_key u e) (lower_key v f) l t = absurd (n (one_lower j i u v))
  by_key j i n (lower_key u e) (fixed_key v f) l t = mover_first (lower_moves (k - 1) (row_of (line_at r (j - 1))) u) v
  by_key j i n (fixed_key u e) (upper_key v f) l t = absurd (omega arith)
  by_key j i n (fixed_key u e) (lower_key v f) l t = absurd (omega arith)
  by_key j i n (fixed_key u e) (fixed_key v f) l t =
      by_cases (ltb (deadline_at r j) (deadline_at r i))
      (λ d. earliest u v (ltb-true _ _ d))
      (λ d.
      let same : deadline_at r j ≡ deadline_at r i = omega (arith, ltb-false (deadline_at r j) (deadline_at r i) d) in
      lowest u v same
      (by_cases (ltb j i) (λ b. ltb-true j i b) (λ b. absurd (by_cases (ltb i j)
      (λ c. omega (arith, t (ltb-true i j c)))
      (λ c. n (omega (arith, ltb-false j i b, ltb-false i j c)))))))

  -- the task with the least key goes first
  least_first : (j : ℕ) → 1 ≤ j → Least r k tasks_limit (j - 1) → GoesFirst r k j
  least_first j one c = (
    at_waits r k j one (omega (arith, waits_in r (sound_facts r g.sound) (j - 1) k c.within c.waiting)) c.waiting,
    λ i w n.
        let h : i - 1 < tasks_limit = task_in r g (i - 1) (omega (arith, w.from, w.to)) in
        let v = waits_at r k i w in
        by_key j i (λ e. n (omega (arith, w.from)))
        (waits_keyed r g k (j - 1) c.within c.waiting)
        (waits_keyed r g k (i - 1) h v)
        (c.least (i - 1) h v)
        (λ l. c.lowest (i - 1) (omega (arith, w.from)) v),
  )

  -- its key says what is answered
  by_task : (j d : ℕ) → 1 ≤ j → GoesFirst r k j → d ≡ key_at r k (j - 1) → Keyed (line_at r (j - 1)) (state_at r (j - 1)) k
      → Chosen r k (choice_for r (record { task = j; key = d }))
  unfolding choice_for
  by_task j d one f q (upper_key u e) = rw (ne_eqb j 0 (λ z. omega arith), eq-eqb d 0 (q ∙ e)) (as_upper j f u)
  by_task j d one f q (lower_key l e) = rw (ne_eqb j 0 (λ z. omega arith), ne_eqb d 0 (λ z. omega arith), eq-eqb d 1 (q ∙ e)) (as_lower j f l)
  by_task j d one f q (fixed_key x e) =
      rw (ne_eqb j 0 (λ z. omega arith), ne_eqb d 0 (λ z. omega arith), ne_eqb d 1 (λ z. omega arith)) (as_fixed j f x)

  -- so for each outcome of the search
  by_search : (task d : ℕ) → Found r k tasks_limit task d → Chosen r k (choice_for r (record { task = task; key = d }))
  unfolding choice_for
  by_search zero d f = idle (λ i w. false≢true (cc (f (i - 1) (task_in r g (i - 1) (omega (arith, w.from, w.to))), waits_at r k i w)))
  by_search (suc j) d f =
      let back : j ≡ suc j - 1 = omega arith in
      let c = subst (λ (x : ℕ). Least r k tasks_limit x) back f.1 in
      by_task (suc j) d (omega arith) (least_first (suc j) (omega arith) c) (f.0 ∙ ap (key_at r k) back)
      (waits_keyed r g k (suc j - 1) c.within c.waiting)

  -- the choice is the one that document 01 describes
  pub choice_chosen : Chosen r k (choice_of r k)
  unfolding choice_of
  choice_chosen = by_search (best_of r k tasks_limit).task (best_of r k tasks_limit).key (found r k tasks_limit)

module _ (r : Record) (k : ℕ) where
  -- a task that goes before another has no greater key, and the lower number at a tie
  before_key : (j i : ℕ) → GoesBefore r k j i → (key_at r k (j - 1) ≤ key_at r k (i - 1)) × (key_at r k (i - 1) ≤ key_at r k (j - 1) → j < i)
  before_key j i (mover_first m f) =
      let a = key_mover (line_at r (j - 1)) (state_at r (j - 1)) k m in
      let b = key_fixed (line_at r (i - 1)) (state_at r (i - 1)) k f in
      (omega arith, λ h. absurd (omega arith))
  before_key j i (upper_first u l) =
      let a = key_upper (line_at r (j - 1)) (state_at r (j - 1)) k u in
      let b = key_lower (line_at r (i - 1)) (state_at r (i - 1)) k l in
      (omega arith, λ h. absurd (omega arith))
  before_key j i (earliest e f l) =
      let a = key_fixed (line_at r (j - 1)) (state_at r (j - 1)) k e in
      let b = key_fixed (line_at r (i - 1)) (state_at r (i - 1)) k f in
      (omega arith, λ h. absurd (omega arith))
  before_key j i (lowest e f d l) =
      let a = key_fixed (line_at r (j - 1)) (state_at r (j - 1)) k e in
      let b = key_fixed (line_at r (i - 1)) (state_at r (i - 1)) k f in
      (omega arith, λ h. l)

  -- so only one task goes first
  first_one : (i j : ℕ) → GoesFirst r k i → GoesFirst r k j → i ≡ j
  first_one i j f h = go (ℕ_discrete i j)
    where
      go : Dec (i ≡ j) → i ≡ j
      go (yes e) = e
      go (no n) =
          let a = before_key i j (f.1 j h.0 (λ e. n (sym e))) in
          let b = before_key j i (h.1 i f.0 n) in
          absurd (omega (arith, a.1 b.0, b.1 a.0))

  -- what is answered of task j
  abbrev said : ℕ → Choice
  said j =
      cond (upper (k - 1) (task_shares r.plan j)) (Mover j (ticks (deadline_at r j)) Upper)
      (cond (lower (k - 1) (task_shares r.plan j)) (Mover j (ticks (deadline_at r j)) Lower) (Fixed j (ticks (deadline_at r j))))

  -- none waits and the core is idle, or that is answered of the task that goes first
  told : {x : Choice} → Chosen r k x → (((i : ℕ) → Waits r k i → ⊥) × (x ≡ Idle)) ⊎ ((j : ℕ) × GoesFirst r k j × (x ≡ said j))
  told (idle n) = inl (n, refl)
  told (as_fixed j f x) = let s = fixed_still (k - 1) (task_shares r.plan j) x in inr (j, f, rw (s.0, s.1))
  told (as_upper j f u) = inr (j, f, rw u)
  told (as_lower j f l) = inr (j, f, rw (lower_only (k - 1) (task_shares r.plan j) l, l))

  -- so no other choice is the one that document 01 describes
  pub chosen_one : {x y : Choice} → Chosen r k x → Chosen r k y → x ≡ y
  chosen_one a b =
      ⊎_elim
      (λ c. ⊎_elim (λ d. c.1 ∙ sym d.1) (λ d. absurd (c.0 d.0 d.1.0)) (told b))
      (λ c. ⊎_elim
      (λ d. absurd (d.0 c.0 c.1.0))
      (λ d. c.2 ∙ ap said (first_one c.0 d.0 c.1 d.1) ∙ sym d.2)
      (told b))
      (told a)

-- an accepted look answers it, and no other
pub look_exactly : (r : Record) → Good r → (k : ℕ) (t : Ticks) → call_refusal r (Look k t) ≡ 0 → (x : Choice)
    → ((answered_of r (Look k t)).answer ≡ Looked x) ↔ Chosen (at_time r t.0) k x
look_exactly r g k t e x =
    let q = look_taken r k t.0 (sym (sym (look_no r k t) ∙ e)) refl refl in
    let now = choice_chosen (at_time r t.0) (timed_good r g t.0 (look_passed r k t.0 (sym (look_no r k t) ∙ e)).limit) k in
    rw (answered_of, q)
    (λ a. subst (Chosen (at_time r t.0) k) (cc) now, λ c. ap Looked (chosen_one (at_time r t.0) k now c))
