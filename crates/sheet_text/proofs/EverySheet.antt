-- Every sheet has one of the forms; so what is read is what the sheet says by its form, and nothing else.
use Rattle.std.specs.declared.option.Option.TheVariants.{Some, None}
use Prim.Native.Nat.{ℕ}
use mathlib.Core.Path.{◌≡◌, refl, sym, ap, ◌∙◌}
use mathlib.Core.Bool.{true, false}
use mathlib.Core.Logic.{◌↔◌, inl, inr}
use mathlib.Core.List.{List, ◌++◌}
use native.Mathlib.Omega.{arith}
use borrow.Author.Tests.{lt-ltb, le-leb}
use lib.ListN.{length, drop}
use Rattle.lists.proofs.Tests.{by_cases, and_true}
use Rattle.writing.proofs.Decimal.{either}
use Rattle.scanning.specs.Number.{Number}
use Rattle.scanning.proofs.Fields.{no_value, same_number}
use Rattle.tick_length.specs.Ticks.{tick_in, tick_limit}
use Rattle.name_list.specs.Names.{twice}
use Rattle.name_list.proofs.Repeated.{twice_exactly}
use Rattle.sheet_text.specs.Job.{Job, names_in}
use Rattle.sheet_text.specs.Sheet.{Said, says, refused_by, tick_line, jobs_said, sheet_of}
use Rattle.sheet_text.specs.Grammar.{TickIn, tick_written, Distinct, Starts, Jobs, NoJobs, Says, sheet, refused_19, refused_17, refused_18}
use Rattle.sheet_text.proofs.Jobs.{jobs_at}
use Rattle.sheet_text.proofs.Written.{tick_written_lem, tick_read, jobs_written_lem, jobs_read}
use Rattle.sheet_text.proofs.Says.{tick_range, jobs_long, jobs_bad, jobs_twice, jobs_said_lem, sheet_none, sheet_out, sheet_is}
use Rattle.sheet_text.proofs.Cases.{Ticked, Listed, Case, no_number, out_of_range, too_long, bad_line, same_name, read, case_of}

-- a tick length in range passes its test
in_range : (tick : ℕ) → TickIn tick → tick_in tick ≡ true
in_range tick h = and_true _ _ (lt-ltb 0 tick h.0) (le-leb tick tick_limit h.1)

-- no test gives both answers
not_both : {A : Type 0} → true ≡ false → A
not_both e = absurd (let z : ◌≡◌ {A = ℕ} 0 1 = cc in omega (arith, z))

-- names that are distinct pass the test for one that stands twice
not_twice : (js : List Job) → Distinct (names_in js) → twice (names_in js) ≡ false
not_twice js h =
    by_cases (twice (names_in js))
    (λ e. let r = (twice_exactly (names_in js)).0 e in absurd (h r.0 r.1 r.2 r.3 r.4))
    (λ e. e)

-- and where the test finds none, they are
distinct : (js : List Job) → twice (names_in js) ≡ false → Distinct (names_in js)
distinct js e i j h k p = not_both (sym ((twice_exactly (names_in js)).1 (i, j, h, k, p)) ∙ e)

module _ (s : List ℕ) where
  -- a sheet that starts with the line of a tick length is read so
  after_tick_lem : {tick : ℕ} {rest : List ℕ} → Starts s tick rest → (at : ℕ) × Ticked s tick at × (drop at s ≡ rest)
  after_tick_lem {tick} {rest} h =
      let w = tick_written_lem s tick rest (omega (arith, h.tick_in.1)) h.lines in
      (w.0, record { line = w.1; range = in_range tick h.tick_in }, w.2)

  -- and what is read so starts with it
  starts_of : {tick at : ℕ} → Ticked s tick at → Starts s tick (drop at s)
  starts_of {tick} {at} t = record { tick_in = tick_range tick t.range; lines = tick_read s tick at t.line }

  -- the lines of jobs are read as those
  listed : {tick : ℕ} {js : List Job} → Jobs s tick js → (at : ℕ) × Listed s tick at × (jobs_at s at ≡ js)
  listed h =
      let t = after_tick_lem h.starts in
      let w = jobs_written_lem s t.0 h.good t.2 in
      (t.0, record { ticked = t.1; short = h.short; fine = w.1 }, w.0)

  -- and the jobs that are read are their lines
  jobs_of_lem : {tick at : ℕ} → Listed s tick at → Jobs s tick (jobs_at s at)
  jobs_of_lem {tick} {at} l =
      let t = starts_of l.ticked in
      let r = jobs_read s at l.fine in
      record {
        starts = record { tick_in = t.tick_in; lines = t.lines ∙ ap (λ (z : List ℕ). tick_written tick ++ z) r.1 };
        good = r.0;
        short = l.short;
      }

  -- the first line is of no tick length
  reads_19 : ((tick : ℕ) (rest : List ℕ) → Starts s tick rest → ⊥) → sheet_of s ≡ refused_by 19
  reads_19 h = go (tick_line s) refl
    where
      go : (n : Number) → tick_line s ≡ n → sheet_of s ≡ refused_by 19
      go None e = sheet_none s e
      go (Some (tick, at)) e =
          by_cases (tick_in tick) (λ k. absurd (h tick (drop at s) (starts_of (record { line = e; range = k })))) (λ k. sheet_out s e k)

  -- what follows it is too long, or not the lines of jobs
  reads_17 : {tick : ℕ} {rest : List ℕ} → Starts s tick rest → NoJobs s rest → sheet_of s ≡ refused_by 17
  reads_17 {tick} {rest} h n =
      let t = after_tick_lem h in
      sheet_is s t.1.line t.1.range ∙ go t.0 t.2 n
    where
      go : (at : ℕ) → drop at s ≡ rest → NoJobs s rest → jobs_said s tick at ≡ refused_by 17
      go at e (inl l) = jobs_long s tick at l
      go at e (inr none) =
          either 4096 (length s)
          (λ l. jobs_long s tick at l)
          (λ l. jobs_bad s tick at l (λ z. let r = jobs_read s at z in none (jobs_at s at) r.0 (sym e ∙ r.1)))

  -- what a sheet says by its form is what is read
  pub reads : {x : Said} → Says s x → sheet_of s ≡ x
  reads (sheet {tick} {js} h d) =
      let (at, l, e) = listed h in
      sheet_is s l.ticked.line l.ticked.range
      ∙ jobs_said_lem s tick at l.short l.fine refl (ap (λ (z : List Job). twice (names_in z)) e ∙ not_twice js d)
      ∙ ap (says tick) e
  reads (refused_19 h) = reads_19 h
  reads (refused_17 h n) = reads_17 h n
  reads (refused_18 {tick} {js} h d) =
      let (at, l, e) = listed h in
      sheet_is s l.ticked.line l.ticked.range
      ∙ jobs_twice s tick at l.short l.fine refl (ap (λ (z : List Job). twice (names_in z)) e ∙ (twice_exactly (names_in js)).1 d)

  -- in each case the sheet says what is read
  case_says : {x : Said} → Case s x → Says s x
  case_says (no_number e) = refused_19 (λ tick rest h. no_value (sym e ∙ (after_tick_lem h).1.line))
  case_says (out_of_range {tick} {at} e k) = refused_19 other
    where
      other : (n : ℕ) (rest : List ℕ) → Starts s n rest → ⊥
      other n rest h =
          let (a, t, f) = after_tick_lem h in
          not_both (sym t.range ∙ ap tick_in (sym (same_number (sym e ∙ t.line)).0) ∙ k)
  case_says (too_long t h) = refused_17 (starts_of t) (inl h)
  case_says (bad_line {tick} {at} t h) = refused_17 (starts_of t) (inr (λ js g e. h (jobs_written_lem s at g e).1))
  case_says (same_name {tick} {at} l e) = refused_18 (jobs_of_lem l) ((twice_exactly (names_in (jobs_at s at))).0 e)
  case_says (read {tick} {at} l e) = sheet (jobs_of_lem l) (distinct (jobs_at s at) e)

  -- every sheet says what is read
  pub says_so : Says s (sheet_of s)
  says_so = case_says (case_of s)

  -- so what is read is what the sheet says by its form
  pub said_exactly : (x : Said) → Says s x ↔ (sheet_of s ≡ x)
  said_exactly x = (reads, λ e. rw e at says_so)

  -- and no sheet says two things
  pub said_once : {x y : Said} → Says s x → Says s y → x ≡ y
  said_once g h = sym (reads g) ∙ reads h
