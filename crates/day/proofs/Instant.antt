-- One scan of the tasks gives each core's choice, as long as it lasts.
use Prim.Native.Nat.{ℕ, zero, suc, ◌-◌, ◌≤◌, ◌<◌}
use mathlib.Core.Path.{◌≡◌, refl, sym, ap, ◌∙◌}
use mathlib.Core.Logic.{◌⊎◌, inl, inr}
use mathlib.Core.Bool.{Bool, true, false, cond, not, ◌&&◌, ◌||◌}
use mathlib.Core.List.{List}
use native.Mathlib.Decide.{ℕ_discrete}
use native.Mathlib.Omega.{arith}
use lib.Dec.{ltb, leb, eqb}
use lib.ListN.{get_or}
use borrow.Author.Tests.{eqb-true, eqb-false, ne_eqb, lt-ltb, le-ltb, le-leb, lt-leb, ltb-true, ltb-false}
use Rattle.lists.proofs.Tests.{by_cases}
use Rattle.units.specs.Limits.{cores_limit, clock_limit}
use Rattle.planning.specs.declared.Line.{Line}
use Rattle.planning.specs.declared.Plan.{Plan}
use Rattle.soundness.specs.Plan.{plan_sound}
use Rattle.soundness.proofs.Ranges.{in_range, sound_in}
use Rattle.soundness.proofs.Facts.{task_sound}
use Rattle.task_state.specs.declared.State.{State}
use Rattle.task_state.specs.State.{run_at}
use Rattle.task_state.specs.Due.{due_after}
use Rattle.task_state.specs.Key.{waits, key_of, deadline_of}
use Rattle.task_state.proofs.Waits.{waits_told}
use Rattle.core_choice.specs.declared.Best.{Best}
use Rattle.dispatch.specs.Look.{best_of}
use Rattle.dispatch.proofs.SoundFacts.{sound_facts}
use Rattle.dispatch.proofs.Looking.{best_of_all}
use Rattle.dispatch.proofs.Records.{timed_good}
use Rattle.run_lengths.specs.declared.Work.{Work}
use Rattle.run_lengths.specs.Work.{length_at}
use Rattle.fronts.specs.declared.Front.{Front}
use Rattle.fronts.specs.Front.{no_front, front_of, sees}
use Rattle.instants.specs.declared.Seen.{Seen}
use Rattle.instants.specs.Seen.{idle, better, seen_of, seen_at, next_of}
use Rattle.instants.proofs.Next.{next_first}
use Rattle.instants.proofs.Scanned.{seen_is}
use Rattle.day.specs.Desk.{Desk, line_of, state_of, work_of, had_of, box_of, choice_at, number_of}
use Rattle.day.proofs.Kept.{released_of, InRow}
use Rattle.day.proofs.Stands.{Stands, choice_best}

-- a task's period is above 0
pub period_some : (pl : Plan) → plan_sound pl ≡ true → (i : ℕ) → i < pl.count → 0 < (line_of pl i).period.0
period_some pl ok i l =
    let r = in_range (line_of pl i) (sound_in pl.common (line_of pl i) (task_sound pl ok i l)) in
    omega (arith, r.cost_some, r.cost_fits)

-- at most is not above
at_most : (a b : ℕ) → leb a b ≡ not (ltb b a)
at_most a b = by_cases (ltb b a) (λ e. rw (e, lt-leb a b (ltb-true b a e)) refl) (λ e. rw (e, le-leb a b (ltb-false b a e)) refl)

and_none : (a : Bool) → (a && false) ≡ false
and_none true = refl
and_none false = refl

-- a front on core k is seen exactly where its task waits there
front_waits : (ln : Line) (st : State) (wk : Work) (k t : ℕ) → 0 < k → k ≤ cores_limit
    → (sees (front_of ln st wk) t && eqb (front_of ln st wk).core k) ≡ waits ln st k t
unfolding front_of
front_waits ln st wk k t some few = by_cases (eqb st.live 0) none one
  where
    core : ℕ
    core = (run_at st 0).core

    rel : ℕ
    rel = deadline_of st - due_after ln

    none : eqb st.live 0 ≡ true → (sees (front_of ln st wk) t && eqb (front_of ln st wk).core k) ≡ waits ln st k t
    none e = let z = eqb-true st.live 0 e in rw (e, le-ltb 0 st.live (omega (arith, z))) refl

    on : (b : Bool) → eqb core k ≡ b → ((ltb 0 core && leb core cores_limit && leb rel t) && b) ≡ (b && not (ltb t rel))
    on true e =
        let q = eqb-true core k e in
        rw (lt-ltb 0 core (omega (arith, q, some)), le-leb core cores_limit (omega (arith, q, few)), at_most rel t) (and_all (not (ltb t rel)))
      where
        and_all : (b : Bool) → (b && true) ≡ b
        and_all true = refl
        and_all false = refl
    on false e = and_none (ltb 0 core && leb core cores_limit && leb rel t)

    one : eqb st.live 0 ≡ false → (sees (front_of ln st wk) t && eqb (front_of ln st wk).core k) ≡ waits ln st k t
    one e =
        let z = eqb-false st.live 0 e in
        rw (e, lt-ltb 0 st.live (omega (arith, z))) (on (eqb core k) refl)

-- its key is that of its task there
front_key : (ln : Line) (st : State) (wk : Work) (k t : ℕ) → waits ln st k t ≡ true → (front_of ln st wk).key ≡ key_of ln st k
unfolding front_of
front_key ln st wk k t w =
    let q = waits_told ln st k t w in
    rw (ne_eqb st.live 0 (λ z. omega (arith, z, q.unfinished)), q.there) refl

-- a choice: the best task and its key, its run's number and the ticks that this still has to run
pub record Sees (d : Desk) (x : Seen) (b : Best) : Type 0 where
  pub task : x.task ≡ b.task
  pub key : x.key ≡ b.key
  pub run : x.run ≡ number_of d b.task
  pub left : 0 < b.task → x.left ≡ length_at (work_of d (b.task - 1)) 0 - had_of d (b.task - 1)

module _ (pl : Plan) (t : ℕ) (d : Desk) (fs : List Front)
    (front : (i : ℕ) → i < pl.count → get_or fs i no_front ≡ front_of (line_of pl i) (state_of d i) (work_of d i)) where
  -- so of the first n tasks
  pub sees_best : (p n : ℕ) → p < cores_limit → n ≤ pl.count → Sees d (seen_at fs d.had t p n) (best_of (box_of pl t d) (suc p) n)
  unfolding seen_at best_of front_of
  sees_best p zero few l = record { task = refl; key = refl; run = refl; left = λ z. absurd (omega (arith, z)) }
  sees_best p (suc n) few l =
      rw (front n l, front_waits (line_of pl n) (state_of d n) (work_of d n) (suc p) t (omega arith) (omega (arith, few)))
      (go (seen_at fs d.had t p n) (best_of (box_of pl t d) (suc p) n) (sees_best p n few (omega (arith, l))) (waits (line_of pl n) (state_of d n)
      (suc p) t) refl)
    where
      f : Front
      f = front_of (line_of pl n) (state_of d n) (work_of d n)

      go : (x : Seen) (b : Best) → Sees d x b → (w : Bool) → waits (line_of pl n) (state_of d n) (suc p) t ≡ w
          → Sees d (cond w (better x (suc n) f (had_of d n)) x)
          (cond (w && (eqb b.task 0 || ltb (key_of (line_of pl n) (state_of d n) (suc p)) b.key))
          (record { task = suc n; key = key_of (line_of pl n) (state_of d n) (suc p) }) b)
      go x b s false e = s
      go x b s true e =
          rw (s.task, s.key, front_key (line_of pl n) (state_of d n) (work_of d n) (suc p) t e)
          (at (eqb b.task 0 || ltb (key_of (line_of pl n) (state_of d n) (suc p)) b.key))
        where
          at : (c : Bool) → Sees d (cond c (record {
            task = suc n;
            key = key_of (line_of pl n) (state_of d n)
                (suc p);
            run = f.run;
            left = f.length - had_of d n;
          })
              (record { task = b.task; key = b.key; run = x.run; left = x.left }))
              (cond c (record { task = suc n; key = key_of (line_of pl n) (state_of d n) (suc p) }) b)
          at true = record {
            task = refl;
            key = refl;
            run = let back : suc n - 1 ≡ n = omega arith in rw (ne_eqb (suc n) 0 (λ z. omega (arith, z)), back) refl;
            left = λ z. let back : suc n - 1 ≡ n = omega arith in rw back refl;
          }
          at false = record { task = refl; key = refl; run = s.run; left = s.left }

  -- each core's choice, as the scan sees it
  module _ (s : Stands pl t d) where
    pub seen_choice : (p : ℕ) → p < cores_limit → (get_or (seen_of fs d.had t pl.count) p idle).task ≡ choice_at pl t d p
    seen_choice p few =
        rw (seen_is fs d.had t pl.count p few) ((sees_best p pl.count few (omega arith)).task
        ∙ sym (choice_best pl t d p ∙ ap (λ (b : Best). b.task) (best_of_all (box_of pl t d) (sound_facts (box_of pl t d) s.good.sound) (suc p))))

    pub seen_run : (p : ℕ) → p < cores_limit → (get_or (seen_of fs d.had t pl.count) p idle).run ≡ number_of d (choice_at pl t d p)
    seen_run p few =
        rw (seen_is fs d.had t pl.count p few) ((sees_best p pl.count few (omega arith)).run
        ∙ ap (number_of d) (sym (choice_best pl t d p ∙ ap (λ (b : Best). b.task) (best_of_all (box_of pl t d) (sound_facts (box_of pl t d)
        s.good.sound) (suc p)))))

    pub seen_left : (p : ℕ) → p < cores_limit → 0 < choice_at pl t d p
        → (get_or (seen_of fs d.had t pl.count) p idle).left ≡ length_at (work_of d (choice_at pl t d p - 1)) 0 - had_of d (choice_at pl t d p - 1)
    seen_left p few some =
        let e = choice_best pl t d p ∙ ap (λ (b : Best). b.task) (best_of_all (box_of pl t d) (sound_facts (box_of pl t d) s.good.sound) (suc p)) in
        rw (seen_is fs d.had t pl.count p few, e) ((sees_best p pl.count few (omega arith)).left (omega (arith, some, e)))

    -- until the next release time ahead no run becomes ready
    module _ (v u : ℕ) (from : t ≤ u) (to : u < next_of fs t v pl.count) where
      ready_same : (i : ℕ) → i < pl.count → 0 < (state_of d i).live → ltb u (released_of (line_of pl i) (state_of d i) 0) ≡ ltb t (released_of
          (line_of pl i) (state_of d i) 0)
      unfolding front_of
      ready_same i l live = go ((s.each i l).row 0 live)
        where
          x : ℕ
          x = released_of (line_of pl i) (state_of d i) 0

          go : (x ≤ t) ⊎ InRow (line_of pl i) (state_of d i) x → ltb u x ≡ ltb t x
          go (inl h) = rw (le-ltb u x (omega (arith, h, from)), le-ltb t x h) refl
          go (inr (q, e)) = by_cases (ltb t x) above (λ b. let h = ltb-false t x b in rw (le-ltb u x (omega (arith, h, from)), b) refl)
            where
              above : ltb t x ≡ true → ltb u x ≡ ltb t x
              above b =
                  let h = ltb-true t x b in
                  let fr = front i l in
                  let n = next_first fs t v pl.count i x q l h (rw fr e) (rw fr (period_some pl (sound_facts (box_of pl t d) s.good.sound).plan i l)) in
                  rw (b, lt-ltb u x (omega (arith, n, to))) refl

      -- so each choice is the same
      best_same : (k n : ℕ) → 0 < k → k ≤ cores_limit → n ≤ pl.count → best_of (box_of pl u d) k n ≡ best_of (box_of pl t d) k n
      unfolding best_of
      best_same k zero some few l = refl
      best_same k (suc n) some few l = rw (best_same k n some few (omega (arith, l)), waits_same (ℕ_discrete (state_of d n).live 0)) refl
        where
          waits_same : Dec ((state_of d n).live ≡ 0) → waits (line_of pl n) (state_of d n) k u ≡ waits (line_of pl n) (state_of d n) k t
          waits_same (yes z) = rw z refl
          waits_same (no z) = rw (ready_same n l (omega (arith, z))) refl

      pub choice_still : (p : ℕ) → p < cores_limit → u ≤ clock_limit → choice_at pl u d p ≡ choice_at pl t d p
      choice_still p few l =
          let g = timed_good (box_of pl t d) s.good u l in
          choice_best pl u d p
          ∙ ap (λ (b : Best). b.task) (best_of_all (box_of pl u d) (sound_facts (box_of pl u d) g.sound) (suc p)
          ∙ best_same (suc p) pl.count (omega arith) (omega (arith, few)) (omega arith)
          ∙ sym (best_of_all (box_of pl t d) (sound_facts (box_of pl t d) s.good.sound) (suc p)))
          ∙ sym (choice_best pl t d p)
