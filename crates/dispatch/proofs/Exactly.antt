-- A call is refused by a number exactly if its row of document 01 applies and no earlier one does, and taken exactly if none applies.
use Prim.Native.Nat.{ℕ, ◌-◌, ◌<◌}
use mathlib.Core.Path.{◌≡◌, refl, sym, ◌∙◌, subst}
use mathlib.Core.Logic.{◌↔◌, ◌⊎◌, ⊎_elim, inl, inr}
use mathlib.Core.Bool.{Bool, true, false, cond, not, ◌||◌, false≢true}
use lib.Dec.{ltb, eqb}
use borrow.Author.Tests.{ltb-true, lt-ltb, eqb-true, eq-eqb, not-true}
use Rattle.lists.proofs.Tests.{or_left, or_right, or_cases}
use Rattle.units.specs.declared.ticks.Ticks.{Ticks}
use Rattle.task_state.specs.State.{run_at}
use Rattle.task_state.specs.Due.{release_at, held}
use Rattle.dispatch.specs.declared.Record.{Record}
use Rattle.dispatch.specs.declared.call.Call.{Call}
use Rattle.dispatch.specs.declared.call.Call.TheVariants.{Release, Finish, Look}
use Rattle.dispatch.specs.Record.{line_at, state_at}
use Rattle.dispatch.specs.Sound.{sound_of}
use Rattle.call_tests.specs.Tests.{outside}
use Rattle.dispatch.specs.Refusals.{task_tests, look_refusal, release_refusal, finish_refusal}
use Rattle.dispatch.specs.Calls.{call_refusal}
use Rattle.dispatch.specs.Given.{◌if◌else◌, here, past, none, Unsound, Out, Over, Past, Unfinished, Given}
use Rattle.dispatch.specs.Given.{next_release, HeldOver, oldest_release, OldestHeld}
use Rattle.dispatch.proofs.OneCall.{release_no_lem, finish_no_lem, look_no}
use Rattle.dispatch.proofs.ReleaseTime.{released, held_until}

-- a number is given exactly as rows say
abbrev Gives : ℕ → (ℕ → Type 0) → Type 0
Gives x Rows = (n : ℕ) → (x ≡ n) ↔ Rows n

-- one row more before them, by a test that says its case; they may count on it that the case does not apply
row : {Case : Type 0} {Later : ℕ → Type 0} {later : ℕ} (b : Bool) (k : ℕ) → (b ≡ true) ↔ Case → ((Case → ⊥) → Gives later Later)
    → Gives (cond b k later) (k if Case else Later)
row {Case} {Later} {later} true k c l n = (λ e. subst (k if Case else Later) e (here (c.0 refl)), back)
  where
    back : {n : ℕ} → (k if Case else Later) n → k ≡ n
    back (here p) = refl
    back (past f p) = absurd (f (c.0 refl))
row {Case} {Later} {later} false k c l n = (λ e. past out ((l out n).0 e), back)
  where
    out : Case → ⊥
    out p = false≢true (c.1 p)

    back : {n : ℕ} → (k if Case else Later) n → later ≡ n
    back (here p) = absurd (out p)
    back {n} (past f p) = (l f n).1 p

-- no row is left
last : Gives 0 none
last n = (sym, sym)

-- a call's own tests come after those of every call for a task
own_last : (a b c d : Bool) (own : ℕ)
    → let shared : ℕ = cond a 15 (cond b 7 (cond c 12 (cond d 8 0))) in
    cond (eqb shared 0) own shared ≡ cond a 15 (cond b 7 (cond c 12 (cond d 8 own)))
own_last true b c d own = refl
own_last false true c d own = refl
own_last false false true d own = refl
own_last false false false true own = refl
own_last false false false false own = refl

-- a number is out of its range
out_if : (n i : ℕ) → (outside n i ≡ true) ↔ Out n i
out_if n i = (
  λ e. ⊎_elim (λ a. inl (eqb-true i 0 a)) (λ a. inr (ltb-true n i a)) (or_cases (eqb i 0) (ltb n i) e),
  ⊎_elim (λ a. or_left (eqb i 0) (ltb n i) (eq-eqb i 0 a)) (λ a. or_right (eqb i 0) (ltb n i) (lt-ltb n i a)),
)

module _ (r : Record) where
  -- a release within the clock's range is held until a time above it
  over_if : (i : ℕ) (t : Ticks) → (Over t → ⊥) → (ltb 1000000000000 (release_at (line_at r (i - 1)) (state_at r (i - 1)) t.0) ≡ true) ↔ HeldOver r i t
  over_if i t now = (
    λ e.
        let l = ltb-true 1000000000000 (release_at (line_at r (i - 1)) (state_at r (i - 1)) t.0) e in
        ⊎_elim
        (λ p. (p.0, subst (λ (x : ℕ). 1000000000000 < x) p.1 l))
        (λ p. absurd (now (subst (λ (x : ℕ). 1000000000000 < x) p.1 l)))
        (released r i t),
    λ p. rw (held_until r i t p.0) (lt-ltb 1000000000000 (next_release r i) p.1),
  )

  -- a task's oldest run is held
  held_if : (i : ℕ) (t : Ticks) → ((eqb (state_at r (i - 1)).live 0 || held (line_at r (i - 1)) (run_at (state_at r (i - 1)) 0) t.0) ≡ true)
      ↔ (Unfinished r i 0 ⊎ OldestHeld r i t)
  held_if i t =
      let st = state_at r (i - 1) in
      let none = eqb st.live 0 in
      let early = held (line_at r (i - 1)) (run_at st 0) t.0 in (
        λ e. ⊎_elim (λ a. inl (eqb-true st.live 0 a)) (λ a. inr (ltb-true t.0 (oldest_release r i) a)) (or_cases none early e),
        ⊎_elim (λ a. or_left none early (eq-eqb st.live 0 a)) (λ a. or_right none early (lt-ltb t.0 (oldest_release r i) a)),
      )

  -- the rows of every call, for a number i of m that is refused by w, and then its own
  shared : (w m i : ℕ) (t : Ticks) {own : ℕ} {Own : ℕ → Type 0} → ((Over t → ⊥) → Gives own Own)
      → Gives (cond (not (sound_of r)) 15 (cond (outside m i) w (cond (ltb 1000000000000 t.0) 12 (cond (ltb t.0 r.clock.0) 8 own))))
      (15 if Unsound r else w if Out m i else 12 if Over t else 8 if Past r t else Own)
  shared w m i t o =
      row (not (sound_of r)) 15 (not-true (sound_of r), λ e. rw e refl)
      (λ a. row (outside m i) w (out_if m i)
      (λ b. row (ltb 1000000000000 t.0) 12 (ltb-true 1000000000000 t.0, lt-ltb 1000000000000 t.0)
      (λ now. row (ltb t.0 r.clock.0) 8 (ltb-true t.0 r.clock.0, lt-ltb t.0 r.clock.0) (λ d. o now))))

  -- the same for a task
  task : (i : ℕ) (t : Ticks) {x own : ℕ} {Own : ℕ → Type 0}
      → x ≡ cond (eqb (task_tests r i t.0) 0) own (task_tests r i t.0)
      → ((Over t → ⊥) → Gives own Own)
      → Gives x (15 if Unsound r else 7 if Out r.plan.count i else 12 if Over t else 8 if Past r t else Own)
  unfolding task_tests
  task i t {x} {own} e o =
      rw (e ∙ own_last (not (sound_of r)) (outside r.plan.count i) (ltb 1000000000000 t.0) (ltb t.0 r.clock.0) own)
      (shared 7 r.plan.count i t o)

  -- so is each number of a call
  pub exactly : (c : Call) → Gives (call_refusal r c) (Given r c)
  unfolding release_refusal finish_refusal look_refusal
  exactly (Release i t) =
      let st = state_at r (i - 1) in
      task i t (release_no_lem r i t)
      (λ now. row (ltb 1000000000000 (release_at (line_at r (i - 1)) st t.0)) 12 (over_if i t now)
      (λ h. row (eqb st.live 8) 10 (eqb-true st.live 8, eq-eqb st.live 8) (λ f. last)))
  exactly (Finish i t) =
      let st = state_at r (i - 1) in
      task i t (finish_no_lem r i t)
      (λ now. row (eqb st.live 0 || held (line_at r (i - 1)) (run_at st 0) t.0) 11 (held_if i t) (λ f. last))
  exactly (Look k t) = rw (look_no r k t) (shared 13 r.plan.cores k t (λ now. last))
