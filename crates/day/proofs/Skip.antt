-- Quiet ticks can be taken at once.
use Prim.Native.Nat.{ℕ, zero, suc, ◌+◌, ◌-◌, ◌≤◌, ◌<◌}
use mathlib.Core.Path.{◌≡◌, refl, sym, ap, ◌∙◌}
use mathlib.Core.Bool.{true, false}
use mathlib.Core.List.{List}
use native.Mathlib.Omega.{arith}
use lib.Dec.{ltb, eqb}
use lib.ListN.{length}
use borrow.Author.Tests.{ne_eqb, eqb-true, ltb-true}
use Rattle.lists.proofs.Tests.{by_cases, and_left, and_right}
use Rattle.planning.specs.declared.Plan.{Plan}
use Rattle.arrivals.specs.Arrivals.{arrivals_in, arrival_time}
use Rattle.run_lengths.specs.Work.{length_at}
use Rattle.day.specs.Desk.{Desk, work_of, had_of, run_of, arrived_by, choice_at, number_of, looked_at, ran_on, done_of, ended_by, leap, desk_at, ran_at}
use Rattle.day.proofs.Looked.{goes_task, goes_run, choice_by_lem, number_by, looked_states, looked_works, looked_had, looked_at_lem, looked_again}
use Rattle.day.proofs.Ran.{having_one, ran_is, ran_more, ran_none}

-- no arrival of the time
pub arrived_none : (pl : Plan) (xs : List ℕ) (t n : ℕ) (d : Desk) → ((k : ℕ) → k < n → arrival_time xs k ≡ t → ⊥) → arrived_by pl xs t n d ≡ d
arrived_none pl xs t zero d h = refl
arrived_none pl xs t (suc n) d h =
    rw (arrived_none pl xs t n d (λ k l. h k (omega (arith, l))), ne_eqb (arrival_time xs n) t (h n (omega arith))) refl

-- no run that is done
pub ended_none : (t n : ℕ) (d : Desk) → ((p : ℕ) → p < n → done_of d (run_of d p).task ≡ false) → ended_by t n d ≡ d
ended_none t zero d h = refl
ended_none t (suc n) d h = rw (ended_none t n d (λ p l. h p (omega (arith, l))), h n (omega arith)) refl

-- some ticks, and then more, of a desk
desk_more : (k m n : ℕ) (d : Desk) → ran_on m n (ran_on k n d) ≡ ran_on (k + m) n d
unfolding ran_on
desk_more k m n d = rw (ran_more d.going k m n d.had) refl

desk_none : (n : ℕ) (d : Desk) → d ≡ ran_on 0 n d
unfolding ran_on
desk_none n d = rw (ran_none d.going n d.had) refl

module _ (pl : Plan) (xs : List ℕ) (t m : ℕ) where
  -- tick t with its arrivals taken
  abbrev pub seen : Desk
  seen = arrived_by pl xs t (arrivals_in xs) (desk_at pl xs t)

  -- core p's choice then
  abbrev pub chosen : ℕ → ℕ
  chosen p = choice_at pl t seen p

  -- for m ticks nothing arrives, no choice changes, and none needs less than m ticks
  pub record Quiet : Type 0 where
    pub none : (u k : ℕ) → t < u → u < t + m → k < arrivals_in xs → arrival_time xs k ≡ u → ⊥
    pub still : (u p : ℕ) → t ≤ u → u < t + m → p < pl.cores → choice_at pl u seen p ≡ chosen p
    pub lasts : (p : ℕ) → p < pl.cores → 0 < chosen p → had_of seen (chosen p - 1) + m ≤ length_at (work_of seen (chosen p - 1)) 0
    pub apart : (p q : ℕ) → p < pl.cores → q < pl.cores → 0 < chosen p → chosen q ≡ chosen p → q ≡ p
    pub wide : pl.cores ≤ length seen.going
    pub few : (p : ℕ) → p < pl.cores → chosen p ≤ length seen.had

  module _ (quiet : Quiet) where
    -- with each core looked at
    abbrev there : Desk
    there = looked_at pl t pl.cores seen

    -- k ticks on
    abbrev later : ℕ → Desk
    later k = ran_on k pl.cores there

    -- the choice has its core
    has_task : (k p : ℕ) → p < pl.cores → (run_of (later k) p).task ≡ chosen p
    unfolding ran_on
    has_task k p l = rw (looked_at_lem pl t seen pl.cores p l quiet.wide) (goes_task (run_of seen p) (chosen p) (number_of seen (chosen p)) t)

    has_run : (k p : ℕ) → p < pl.cores → (run_of (later k) p).run ≡ number_of seen (chosen p)
    unfolding ran_on
    has_run k p l = rw (looked_at_lem pl t seen pl.cores p l quiet.wide) (goes_run (run_of seen p) (chosen p) (number_of seen (chosen p)) t)

    same_states : (k : ℕ) → (later k).states ≡ seen.states
    unfolding ran_on
    same_states k = looked_states pl t seen pl.cores

    same_works : (k : ℕ) → (later k).works ≡ seen.works
    unfolding ran_on
    same_works k = looked_works pl t seen pl.cores

    -- looking again changes nothing
    again : (k : ℕ) → k < m → looked_at pl (t + k) pl.cores (later k) ≡ later k
    again k h =
        looked_again pl (t + k) (later k) pl.cores
        (λ p l.
        let c : choice_at pl (t + k) (later k) p ≡ chosen p =
        choice_by_lem pl (t + k) (later k) seen p (same_states k) ∙ quiet.still (t + k) p (omega arith) (omega (arith, h)) l in
        (has_task k p l ∙ sym c, has_run k p l ∙ sym (ap (number_of (later k)) c ∙ number_by (later k) seen (chosen p) (same_works k))))

    -- a choice has had k ticks more
    had_more : (k p i : ℕ) → p < pl.cores → chosen p ≡ suc i → had_of (later k) i ≡ had_of seen i + k
    unfolding ran_on
    had_more k p i l e =
        let h : i < length there.had = rw (looked_had pl t seen pl.cores) (omega (arith, quiet.few p l, e)) in
        ran_is there.going k there.had pl.cores i h
        ∙ rw (
          having_one there.going i pl.cores p l (has_task 0 p l ∙ e)
              (λ q b z. quiet.apart p q l b (omega (arith, e)) (sym (has_task 0 q b) ∙ z ∙ sym e)),
          looked_had pl t seen pl.cores,
        ) (omega arith)

    -- so none is done where each needs more
    not_done : (k p : ℕ) → p < pl.cores → (0 < chosen p → had_of seen (chosen p - 1) + k < length_at (work_of seen (chosen p - 1)) 0)
        → done_of (later k) (run_of (later k) p).task ≡ false
    not_done k p l h = rw (has_task k p l) (by_cases (done_of (later k) (chosen p)) (λ e. absurd (no e)) (λ e. e))
      where
        no : done_of (later k) (chosen p) ≡ true → ⊥
        no e =
            let i = chosen p - 1 in
            let a = ltb 0 (chosen p) in
            let b = eqb (had_of (later k) i) (length_at (work_of (later k) i) 0) in
            let some = ltb-true 0 (chosen p) (and_left a b e) in
            let all = eqb-true (had_of (later k) i) (length_at (work_of (later k) i) 0) (and_right a b e) in
            let more = had_more k p i l (omega (arith, some)) in
            let long : length_at (work_of (later k) i) 0 ≡ length_at (work_of seen i) 0 = rw (same_works k) refl in
            omega (arith, all, more, long, h some)

    -- before the run of tick t + k
    before_run : (k : ℕ) → k < m → looked_at pl (t + k) pl.cores (arrived_by pl xs (t + k) (arrivals_in xs) (desk_at pl xs (t + k))) ≡ later k
    unfolding desk_at
    before_run zero h = let e : t + 0 ≡ t = omega arith in rw e (desk_none pl.cores there)
    before_run (suc k) h =
        let e : t + suc k ≡ suc (t + k) = omega arith in
        let f : k + 1 ≡ suc k = omega arith in
        let g : k < m = omega (arith, h) in
        rw (
          e,
          before_run k g,
          desk_more k 1 pl.cores there,
          f,
          ended_none (t + k + 1) pl.cores (later (suc k)) (λ p l. not_done (suc k) p l (λ some. omega (arith, quiet.lasts p l some, h))),
          arrived_none pl xs (suc (t + k)) (arrivals_in xs) (later (suc k)) (λ j l z. quiet.none (suc (t + k)) j (omega arith) (omega (arith, h)) l z),
          ← e,
        )
        (again (suc k) h)

    -- m ticks on, before the finishes
    pub before_finishes : 0 < m → ran_at pl xs (t + m) ≡ ran_on m pl.cores there
    unfolding ran_at
    before_finishes some =
        let k = m - 1 in
        let e : t + m ≡ suc (t + k) = omega (arith, some) in
        let f : k + 1 ≡ m = omega (arith, some) in
        rw (e, before_run k (omega (arith, some)), desk_more k 1 pl.cores there, f) refl

    -- m ticks at once
    pub skip : 0 < m → desk_at pl xs (t + m) ≡ leap pl t m seen
    unfolding desk_at
    skip some =
        let k = m - 1 in
        let e : t + m ≡ suc (t + k) = omega (arith, some) in
        let f : k + 1 ≡ m = omega (arith, some) in
        let g : t + k + 1 ≡ t + m = omega (arith, some) in
        rw (e, before_run k (omega (arith, some)), desk_more k 1 pl.cores there, f, g) (rw (← e) refl)

    -- and where none is done then, no finish follows
    pub skip_all : 0 < m → ((p : ℕ) → p < pl.cores → 0 < chosen p → had_of seen (chosen p - 1) + m < length_at (work_of seen (chosen p - 1)) 0)
        → desk_at pl xs (t + m) ≡ ran_on m pl.cores there
    skip_all some less = skip some ∙ ended_none (t + m) pl.cores (later m) (λ p l. not_done m p l (less p l))
