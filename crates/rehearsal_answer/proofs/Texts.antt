-- The equations of what the program `rehearse` writes, as the code meets them.
use Prim.Native.Nat.{ℕ, ◌+◌, ◌≤◌, ◌<◌}
use mathlib.Core.Path.{◌≡◌, refl, sym, ap, ◌∙◌, subst⁻¹}
use mathlib.Core.Bool.{Bool, true, false}
use mathlib.Core.List.{List}
use borrow.Author.Tests.{lt-ltb, le-ltb, ne_eqb}
use Rattle.units.specs.Limits.{clock_limit}
use Rattle.units.specs.Refusals.{refusal, clock_no, text_no, arrival_no}
use Rattle.units.specs.Refusals.{Refusal}
use Rattle.writing.specs.Refused.{refusal_text}
use Rattle.planning.specs.declared.Plan.{Plan}
use Rattle.planning.specs.Plan.{Planned}
use Rattle.planning.specs.Plan.{plan_of}
use Rattle.planning.specs.Shape.{PlanShaped}
use Rattle.soundness.specs.Plan.{plan_sound}
use Rattle.soundness.proofs.Taken.{plan_number}
use Rattle.soundness.proofs.PlannedShape.{started_plan}
use Rattle.soundness.proofs.PlannedSound.{plan_sound_lem}
use Rattle.arrivals.specs.Arrivals.{arrivals_in}
use Rattle.arrivals.proofs.Passed.{fine}
use Rattle.day_window.specs.Window.{Windowed}
use Rattle.day_window.proofs.Windows.{recast}
use Rattle.day_rules.specs.Day.{day_text}
use Rattle.day_text.specs.Input.{rehearses, unreadable, day_of}
use Rattle.rehearsal.specs.Inner.{Rehearsable}
use Rattle.rehearsal_answer.specs.Answer.{left_text, first_refused, tested_text, stopped_text, planned_text, said_text, rehearsal_text}
use Rattle.rehearsal_answer.specs.Inner.{Stoppable}

-- a refusal's line is the answer, where it is the refusal that is due
pub due : {a b xs : List ℕ} {s k : ℕ} {q r : Refusal} → refusal_text q ≡ xs → Windowed a s 0 (refusal_text r) b k → r ≡ q → Windowed a s 0 xs b k
due e w f = recast (ap refusal_text f ∙ e) w

module _ (pl : Plan) (stop : ℕ) (ys : List ℕ) (more : Bool) {r : Refusal} (e : r ≡ first_refused pl ys) where
  -- an arrival is refused
  pub arrival_refused : (r.no ≡ 0 → ⊥) → refusal_text r ≡ tested_text pl stop ys more
  unfolding tested_text
  arrival_refused h = rw (← e, ne_eqb r.no 0 h) refl

  -- none is, and a line is left
  pub line_left : r.no ≡ 0 → more ≡ true → refusal_text (refusal arrival_no (arrivals_in ys + 1)) ≡ tested_text pl stop ys more
  unfolding tested_text left_text
  line_left h m = rw (← e, h, m) refl

  -- none is left
  pub day_follows : r.no ≡ 0 → more ≡ false → day_text pl ys stop ≡ tested_text pl stop ys more
  unfolding tested_text left_text
  day_follows h m = rw (← e, h, m) refl

-- a day of which none is may be rehearsed
pub rehearsable : (pl : Plan) (stop : ℕ) (ys : List ℕ) {r : Refusal} → r ≡ first_refused pl ys → r.no ≡ 0 → Stoppable pl stop → Rehearsable pl ys stop
rehearsable pl stop ys e h s = record {
  shaped = s.shaped;
  sound = s.sound;
  fine = fine pl ys (arrivals_in ys) (ap (λ (x : Refusal). x.no) (sym e) ∙ h);
  upto = s.upto;
}

module _ (m : ℕ) (xs : List ℕ) (stop : ℕ) (ys : List ℕ) (more : Bool) {p : Planned} (e : p ≡ plan_of m xs) where
  -- a table that is refused
  pub table_refused : (p.refusal.no ≡ 0 → ⊥) → refusal_text p.refusal ≡ planned_text (plan_of m xs) stop ys more
  unfolding planned_text
  table_refused h = rw (← e, ne_eqb p.refusal.no 0 h) refl

  module _ (h : p.refusal.no ≡ 0) where
    -- one that is taken, with a stop above the clock's limit
    pub stop_above : clock_limit < stop → refusal_text (refusal clock_no 0) ≡ planned_text (plan_of m xs) stop ys more
    unfolding planned_text stopped_text
    stop_above k = rw (← e, h, lt-ltb clock_limit stop k) refl

    -- with a stop within it
    pub stop_within : stop ≤ clock_limit → tested_text p.plan stop ys more ≡ planned_text (plan_of m xs) stop ys more
    unfolding planned_text stopped_text
    stop_within k = rw (← e, h, le-ltb clock_limit stop k) refl

-- the plan of a table that is taken is sound
pub stoppable : (m : ℕ) (xs : List ℕ) (stop : ℕ) {p : Planned} → p ≡ plan_of m xs → p.refusal.no ≡ 0 → stop ≤ clock_limit → Stoppable p.plan stop
stoppable m xs stop e h k =
    let none : (plan_of m xs).refusal.no ≡ 0 = ap (λ (x : Planned). x.refusal.no) (sym e) ∙ h in
    record {
      shaped = subst⁻¹ (λ (x : Planned). PlanShaped x.plan) e (started_plan m xs none);
      sound = subst⁻¹ (λ (x : Planned). plan_sound x.plan ≡ true) e (plan_sound_lem m xs (sym (plan_number m xs) ∙ none));
      upto = k;
    }

module _ (s : List ℕ) where
  -- an input that cannot be read
  pub input_bad : {line : ℕ} → day_of s ≡ unreadable line → refusal_text (refusal text_no line) ≡ rehearsal_text s
  unfolding rehearsal_text said_text
  input_bad e = rw e refl

  -- one that can
  pub input_good : {m stop : ℕ} {xs ys : List ℕ} {more : Bool} → day_of s ≡ rehearses m xs stop ys more
      → planned_text (plan_of m xs) stop ys more ≡ rehearsal_text s
  unfolding rehearsal_text said_text
  input_good e = rw e refl
