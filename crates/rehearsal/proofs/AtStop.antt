-- What is said at the stop: the spans that end there, and the unfinished runs.
use Prim.Native.Nat.{ℕ, zero, suc, ◌≤◌}
use mathlib.Core.Path.{◌≡◌, refl, sym, ap, ◌∙◌}
use mathlib.Core.List.{List, ◌∷◌, ◌++◌, append_assoc, append-nil}
use native.Mathlib.Omega.{arith}
use lib.ListN.{length, get_or, replicate, get_or-replicate}
use lib.Seq.{get_or-set_other}
use Rattle.units.specs.Limits.{cores_limit, tasks_limit}
use Rattle.units.specs.Units.{ticks}
use Rattle.planning.specs.declared.Plan.{Plan}
use Rattle.soundness.proofs.Facts.{cores_few, tasks_few}
use Rattle.state_rules.proofs.Facts.{facts}
use Rattle.dispatch.proofs.Records.{task_sound}
use Rattle.goings.specs.declared.Going.{Going}
use Rattle.goings.specs.Going.{no_going}
use Rattle.goings.specs.Rows.{goings_in}
use Rattle.goings.proofs.Rows.{goings_long}
use Rattle.instants.specs.declared.Seen.{Seen}
use Rattle.instants.specs.Seen.{idle}
use Rattle.instants.specs.Goings.{goings_of}
use Rattle.instants.proofs.GoingsAt.{goings_at}
use Rattle.day.proofs.Looked.{goes_task, goes_run}
use Rattle.day_lines.specs.declared.Event.{Event}
use Rattle.day_lines.specs.declared.Event.TheVariants.{Stopped}
use Rattle.day_lines.specs.Lines.{event_text, events_text}
use Rattle.day_window.specs.Window.{Windowed}
use Rattle.day_window.proofs.Windows.{none, then, recast}
use Rattle.day_lines.proofs.Events.{events_append}
use Rattle.day_rules.specs.Day.{Day, going_at, span_end, closes, unfinished, day_at, events_of, day_text}
use Rattle.day_rules.specs.Spans.{spans_end}
use Rattle.day.specs.Desk.{line_of, state_of, box_of, desk_of, desk_at}
use Rattle.day.specs.Desk as model
use Rattle.day.proofs.At.{stands_at}
use Rattle.day.proofs.Day.{is_at}
use Rattle.rehearsal.specs.declared.steps.Desk.{Desk}
use Rattle.rehearsal.specs.Inner.{Rehearsable, Stood}
use Rattle.unfinished_runs.specs.Left.{left_by, Leavable}
use Rattle.rehearsal.proofs.Rehearsing.{fine_of}

-- the spans of the cores that were not reached are as they were
closes_after : (t n p : ℕ) (d : Day) → n ≤ p → going_at (closes t n d) p ≡ going_at d p
closes_after t zero p d l = refl
closes_after t (suc n) p d l =
    get_or-set_other (closes t n d).going n p _ no_going (λ e. omega (arith, e, l)) ∙ closes_after t n p d (omega (arith, l))

-- at the stop no run goes on
pub closes_said : (t n : ℕ) (d : Day) → n ≤ cores_limit → (closes t n d).said ≡ d.said ++ spans_end d.going (replicate cores_limit no_going) t n
closes_said t zero d l = sym (append-nil d.said)
closes_said t (suc n) d l =
    rw (closes_said t n d (omega (arith, l)), closes_after t n n d (omega arith), get_or-replicate cores_limit n no_going no_going l)
    (append_assoc d.said (spans_end d.going (replicate cores_limit no_going) t n) (span_end n (going_at d n) 0 0 t))

-- where no core has a choice, every span ends
spans_close : (gs : List Going) (t m : ℕ) → m ≤ length gs → m ≤ cores_limit → (n : ℕ) → n ≤ m
    → spans_end gs (goings_of gs (replicate cores_limit idle) t m) t n ≡ spans_end gs (replicate cores_limit no_going) t n
spans_close gs t m wide few zero l = refl
spans_close gs t m wide few (suc n) l =
    let ss = replicate cores_limit idle in
    let e = get_or-replicate cores_limit n idle idle (omega (arith, l, few)) in
    let at = goings_at gs ss t m n l wide in
    let task = ap (λ (g : Going). g.task) at ∙ goes_task (get_or gs n no_going) (get_or ss n idle).task (get_or ss n idle).run t
    ∙ ap (λ (x : Seen). x.task) e in
    let run = ap (λ (g : Going). g.run) at ∙ goes_run (get_or gs n no_going) (get_or ss n idle).task (get_or ss n idle).run t
    ∙ ap (λ (x : Seen). x.run) e in
    rw (spans_close gs t m wide few n (omega (arith, l)), task, run, get_or-replicate cores_limit n no_going no_going (omega (arith, l, few))) refl

module _ (pl : Plan) (xs : List ℕ) (stop : ℕ) (q : Rehearsable pl xs stop) where
  abbrev m : model.Desk
  m = desk_at pl xs stop

  same_desk : desk_of (day_at pl xs stop) ≡ m
  same_desk = (is_at pl xs (fine_of q) stop q.upto).desk

  pub cores_in : pl.cores ≤ cores_limit
  cores_in = cores_few pl q.sound

  pub tasks_in : pl.count ≤ tasks_limit
  tasks_in = tasks_few pl q.sound

  module _ (r : Desk) (hs gs : List ℕ) (s : Stood pl xs stop r hs gs) where
    -- what is asked of the tasks
    pub leavable : Leavable r.seats pl.count
    leavable = record {
      few = λ i l.
          rw (s.seated i (omega (arith, l, tasks_in)))
          (facts (line_of pl i) (state_of m i) (task_sound (box_of pl stop m) (stands_at pl xs (fine_of q) stop q.upto).0.good i l)).few;
      ended = λ i l.
          rw (s.seated i (omega (arith, l, tasks_in))) (omega (arith, ((stands_at pl xs (fine_of q) stop q.upto).1 i l).few, q.upto));
    }

    -- the unfinished runs
    left_is : (n : ℕ) → n ≤ tasks_limit → left_by r.seats hs n ≡ unfinished (day_at pl xs stop) n
    left_is zero l = refl
    left_is (suc n) l = rw (left_is n (omega (arith, l)), s.seated n l, s.had, ← same_desk) refl

    -- the spans of the first n cores that end, where ss are their choices
    abbrev spans : List Seen → ℕ → List Event
    spans ss n = spans_end (goings_in gs) (goings_of (goings_in gs) ss stop n) stop n

    spans_are : spans (replicate cores_limit idle) pl.cores ≡ spans_end (goings_in gs) (replicate cores_limit no_going) stop pl.cores
    spans_are = spans_close (goings_in gs) stop pl.cores (omega (arith, goings_long gs, cores_in)) cores_in pl.cores (omega arith)

    -- all that is said
    said_is : {ss : List Seen} {p n : ℕ} → ss ≡ replicate cores_limit idle → p ≡ pl.cores → n ≡ pl.count
        → (m.said ++ spans ss p) ++ (Stopped (ticks stop) ∷ left_by r.seats hs n) ≡ events_of pl xs stop
    unfolding events_of
    said_is none every whole =
        rw (
          none,
          every,
          whole,
          spans_are,
          left_is pl.count tasks_in,
          closes_said stop pl.cores (day_at pl xs stop) cores_in,
          s.going,
          ← same_desk,
        )
        refl

    -- what was written, in its order
    pub texts : {a b c d e : List ℕ} {skip i j k l p n : ℕ} {ss : List Seen} → Windowed a skip 0 (events_text m.said) b i
        → Windowed b skip i (events_text (spans ss p)) c j
        → Windowed c skip j (event_text (Stopped (ticks stop))) d k
        → Windowed d skip k (events_text (left_by r.seats hs n)) e l
        → ss ≡ replicate cores_limit idle → p ≡ pl.cores → n ≡ pl.count → Windowed a skip 0 (day_text pl xs stop) e l
    texts {p = p} {n = n} {ss = ss} w x y z none every whole =
        let ds = m.said in
        let es = spans ss p in
        let ls = left_by r.seats hs n in
        recast
        (ap (λ (v : List ℕ). v ++ events_text (Stopped (ticks stop) ∷ ls)) (sym (events_append ds es))
        ∙ sym (events_append (ds ++ es) (Stopped (ticks stop) ∷ ls)) ∙ ap events_text (said_is none every whole))
        (then (then w x) (then y z))
