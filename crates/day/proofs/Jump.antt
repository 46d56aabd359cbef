-- A jump ends at the next arrival, the stop, a release time ahead or the first finish of a choice, and is as so many ticks.
use Prim.Native.Nat.{ℕ, zero, suc, ◌+◌, ◌-◌, ◌≤◌, ◌<◌}
use mathlib.Core.Logic.{◌⊎◌, inl, inr}
use mathlib.Core.Path.{◌≡◌, refl, sym, ◌∙◌}
use mathlib.Core.List.{List}
use native.Mathlib.Omega.{arith}
use lib.ListN.{length, get_or}
use Rattle.units.specs.Limits.{cores_limit, clock_limit}
use Rattle.planning.specs.declared.Plan.{Plan}
use Rattle.arrivals.specs.Arrivals.{arrivals_in, arrival_time}
use Rattle.run_lengths.specs.Work.{length_at}
use Rattle.fronts.specs.declared.Front.{Front}
use Rattle.fronts.specs.Front.{no_front, front_of}
use Rattle.instants.specs.declared.Seen.{Seen}
use Rattle.instants.specs.Seen.{idle, seen_of, next_of, least_left}
use Rattle.instants.proofs.Next.{next_some, next_most, next_first}
use Rattle.instants.proofs.Least.{least_most, least_each, least_some}
use Rattle.dispatch.proofs.Records.{task_in}
use Rattle.day.specs.Desk.{Desk, line_of, state_of, work_of, had_of, box_of, choice_at, number_of, looked_at, ran_on, desk_at, ran_at}
use Rattle.day.proofs.Kept.{released_of, InRow}
use Rattle.day.proofs.Stands.{Stands, Resting, choice_waits}
use Rattle.day.proofs.At.{Fine, cores_wide}
use Rattle.day.proofs.Skip.{Quiet, seen, before_finishes, skip_all}
use Rattle.day.proofs.Instant.{period_some, seen_choice, seen_run, seen_left, choice_still}

module _ (pl : Plan) (xs : List ℕ) (f : Fine pl xs) (t v : ℕ) (ahead : t < v) (upto : v ≤ clock_limit)
    (coming : (j : ℕ) → j < arrivals_in xs → t < arrival_time xs j → v ≤ arrival_time xs j) (fs : List Front) where
  -- tick t with its arrivals taken
  abbrev d : Desk
  d = seen pl xs t 0

  -- each core's choice
  abbrev pub sights : List Seen
  sights = seen_of fs d.had t pl.count

  -- the next release time ahead, arrival or stop
  abbrev pub next_at : ℕ
  next_at = next_of fs t v pl.count

  -- how long a jump is
  abbrev pub jump : ℕ
  jump = least_left sights (next_at - t) pl.cores

  module _ (s : Stands pl t d) (rest : Resting pl t d)
      (front : (i : ℕ) → i < pl.count → get_or fs i no_front ≡ front_of (line_of pl i) (state_of d i) (work_of d i)) where
    few : (p : ℕ) → p < pl.cores → p < cores_limit
    few p l = omega (arith, l, cores_wide pl xs f)

    -- a choice has had less than its length
    left_some : (p : ℕ) → p < pl.cores → 0 < choice_at pl t d p → had_of d (choice_at pl t d p - 1) < length_at (work_of d (choice_at pl t d p - 1)) 0
    left_some p l some =
        let w = choice_waits pl t d p (choice_at pl t d p - 1) s.good (omega (arith, some)) in
        (rest (choice_at pl t d p - 1) w.0).within w.1.unfinished

    pub task_is : (p : ℕ) → p < pl.cores → (get_or sights p idle).task ≡ choice_at pl t d p
    task_is p l = seen_choice pl t d fs front s p (few p l)

    pub run_is : (p : ℕ) → p < pl.cores → (get_or sights p idle).run ≡ number_of d (choice_at pl t d p)
    run_is p l = seen_run pl t d fs front s p (few p l)

    left_is : (p : ℕ) → p < pl.cores → 0 < choice_at pl t d p
        → (get_or sights p idle).left ≡ length_at (work_of d (choice_at pl t d p - 1)) 0 - had_of d (choice_at pl t d p - 1)
    left_is p l some = seen_left pl t d fs front s p (few p l) some

    -- it goes ahead
    pub jump_some : 0 < jump
    jump_some =
        least_some sights (next_at - t) pl.cores (omega (arith, next_some fs t v pl.count ahead))
        (λ p l some.
        let c : 0 < choice_at pl t d p = omega (arith, some, task_is p l) in
        omega (arith, left_is p l c, left_some p l c))

    -- and not beyond
    pub jump_most : t + jump ≤ v
    jump_most =
        omega (arith, least_most sights (next_at - t) pl.cores, next_most fs t v pl.count, next_some fs t v pl.count ahead)

    -- no arrival that lies ahead, nor the stop
    pub jump_arrivals : (j : ℕ) → j < arrivals_in xs → t < arrival_time xs j → t + jump ≤ arrival_time xs j
    jump_arrivals j l h = omega (arith, jump_most, coming j l h)

    -- no stored run's release time that lies ahead, whichever of its task's runs it is
    pub jump_releases : (i k : ℕ) → i < pl.count → k < (state_of d i).live → t < released_of (line_of pl i) (state_of d i) k
        → t + jump ≤ released_of (line_of pl i) (state_of d i) k
    unfolding front_of
    jump_releases i k l live h = go ((s.each i l).row k live)
      where
        x : ℕ
        x = released_of (line_of pl i) (state_of d i) k

        go : (x ≤ t) ⊎ InRow (line_of pl i) (state_of d i) x → t + jump ≤ x
        go (inl e) = absurd (omega (arith, e, h))
        go (inr (q, e)) =
            let some = period_some pl f.sound i l in
            let n = next_first fs t v pl.count i x q l h (rw (front i l) e) (rw (front i l) some) in
            omega (arith, n, least_most sights (next_at - t) pl.cores, next_some fs t v pl.count ahead)

    quiet : Quiet pl xs t jump
    quiet = record {
      none = λ u j a b l e. omega (arith, coming j l (omega (arith, a, e)), e, b, jump_most);
      still = λ u p a b l.
          choice_still pl t d fs front s v u a
          (omega (arith, b, least_most sights (next_at - t) pl.cores, next_some fs t v pl.count ahead))
          p (few p l) (omega (arith, b, jump_most, upto));
      lasts = λ p l some.
          let each = least_each sights (next_at - t) pl.cores p l (omega (arith, some, task_is p l)) in
          omega (arith, each, left_is p l some, left_some p l some);
      apart = λ p q a b some e.
          let j = choice_at pl t d p - 1 in
          let v = (choice_waits pl t d p j s.good (omega (arith, some))).1.there in
          let w = (choice_waits pl t d q j s.good (omega (arith, some, e))).1.there in
          omega (arith, sym v ∙ w);
      wide = omega (arith, s.going, cores_wide pl xs f);
      few = λ p l. upmost p l;
    }
      where
        upmost : (p : ℕ) → p < pl.cores → choice_at pl t d p ≤ length d.had
        upmost p l = go (choice_at pl t d p) refl
          where
            go : (c : ℕ) → choice_at pl t d p ≡ c → c ≤ length d.had
            go zero e = omega arith
            go (suc j) e = omega (arith, task_in (box_of pl t d) s.good j (choice_waits pl t d p j s.good e).0, s.had)

    -- no finish of a choice
    pub jump_finishes : (p : ℕ) → p < pl.cores → 0 < choice_at pl t d p
        → had_of d (choice_at pl t d p - 1) + jump ≤ length_at (work_of d (choice_at pl t d p - 1)) 0
    jump_finishes = quiet.lasts

    -- the desk there, before its finishes
    pub jumped : ran_at pl xs (t + jump) ≡ ran_on jump pl.cores (looked_at pl t pl.cores d)
    jumped = before_finishes pl xs t jump quiet jump_some

    -- and after them, where each choice has more left
    pub jumped_all : ((p : ℕ) → p < pl.cores → 0 < (get_or sights p idle).task → jump < (get_or sights p idle).left)
        → desk_at pl xs (t + jump) ≡ ran_on jump pl.cores (looked_at pl t pl.cores d)
    jumped_all more =
        skip_all pl xs t jump quiet jump_some
        (λ p l some. omega (arith, more p l (omega (arith, some, task_is p l)), left_is p l some, left_some p l some))
