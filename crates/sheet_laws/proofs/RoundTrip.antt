-- What is written reads back as it was; what is read can be written again, and is the same bytes where its numbers are whole ticks.
use Prim.Native.Nat.{ℕ, suc, ◌*◌, ◌/◌, ◌%◌, ◌≤◌, ◌<◌}
use mathlib.Core.Path.{◌≡◌, refl, sym, ap, ap₂, ◌∙◌, subst}
use mathlib.Core.List.{List, [], ◌∷◌}
use native.Mathlib.Omega.{arith}
use lib.ListN.{length}
use lib.Seq.{sets}
use Rattle.lists.specs.Lists.{zeros}
use Rattle.units.specs.Refusals.{taken}
use Rattle.admission.specs.Admission.{plan_refusal}
use Rattle.admission.proofs.Kept.{Kept, kept}
use Rattle.admission.proofs.Admitting.{passed}
use Rattle.planning.specs.Plan.{plan_of}
use Rattle.soundness.proofs.Taken.{plan_number}
use Rattle.names.specs.Name.{Name}
use Rattle.name_list.specs.Names.{names_text}
use Rattle.name_list.proofs.Lists.{All}
use Rattle.tick_length.proofs.NoneLost.{cost_whole, period_whole, none_lost}
use Rattle.sheet_text.specs.Job.{Job, Each, none, also, job, names_in, ticks_in}
use Rattle.sheet_text.specs.Whole.{Whole, NoneLost}
use Rattle.sheet_text.specs.Sheet.{says, sheet_of}
use Rattle.sheet_text.specs.Grammar.{AllGood, Distinct, Says, sheet, sheet_written}
use Rattle.sheet_text.proofs.Says.{good_names}
use Rattle.sheet_text.proofs.EverySheet.{reads}
use Rattle.sheet_reading.specs.Read.{names_limit, planned, answered, plan_sheet}
use Rattle.sheet_reading.proofs.Taken.{Taken, written}
use Rattle.sheet_writing.specs.Write.{jobs_with, write_refusal, sheet_for}
use Rattle.sheet_writing.specs.Given.{Fine}
use Rattle.sheet_writing.proofs.Length.{Tasks, later, nanos, sheet_short}
use Rattle.sheet_writing.proofs.Exactly.{named_sheet, fine_refusal}

-- the jobs of a table have its names, one for each task
pub names_same : (tick : ℕ) (ns : List (List ℕ)) (xs : List ℕ) → length ns ≡ length xs / 2 → names_in (jobs_with tick ns xs) ≡ ns
names_same tick [] xs e = refl
names_same tick (n ∷ ns) [] e = absurd (omega arith)
names_same tick (n ∷ ns) (c ∷ []) e = absurd (omega arith)
names_same tick (n ∷ ns) (c ∷ t ∷ xs) e = ap (λ (l : List (List ℕ)). n ∷ l) (names_same tick ns xs (omega arith))

-- and its numbers, if it is of whole tasks
pub table_same : (tick : ℕ) (ns : List (List ℕ)) (xs : List ℕ) → 0 < tick → length xs % 2 ≡ 0 → length ns ≡ length xs / 2
    → ticks_in tick (jobs_with tick ns xs) ≡ xs
table_same tick [] [] h w e = refl
table_same tick [] (c ∷ []) h w e = absurd (omega arith)
table_same tick [] (c ∷ t ∷ xs) h w e = absurd (omega arith)
table_same tick (n ∷ ns) [] h w e = absurd (omega arith)
table_same tick (n ∷ ns) (c ∷ []) h w e = absurd (omega arith)
table_same tick (n ∷ ns) (c ∷ t ∷ xs) h w e =
    ap₂ ◌∷◌ (cost_whole tick c h) (ap₂ ◌∷◌ (period_whole tick t h) (table_same tick ns xs h (omega arith) (omega arith)))

-- a line can say each of them
good_jobs : (tick : ℕ) (ns : List (List ℕ)) (xs : List ℕ) → tick ≤ 1000000 → All Name ns → Tasks xs → AllGood (jobs_with tick ns xs)
good_jobs tick [] xs h n t = none
good_jobs tick (m ∷ ns) [] h n t = none
good_jobs tick (m ∷ ns) (c ∷ []) h n t = none
good_jobs tick (m ∷ ns) (c ∷ p ∷ xs) h n t =
    let f = t 0 (omega arith) in
    also {j = job m (c * tick) (p * tick)}
    (record {
      name = n 0 (omega arith);
      cost = omega (arith, nanos c tick (omega (arith, f.fits, f.period)) h);
      period = omega (arith, nanos p tick f.period h);
    })
    (good_jobs tick ns xs h (λ i q. n (suc i) (omega arith)) (later c p xs t))

module _ (m : ℕ) (xs names : List ℕ) (tick : ℕ) (ns : List (List ℕ)) (h : Fine xs names tick ns) (p : (plan_refusal m xs).no ≡ 0) where
  -- a table that planning takes
  whole_table : Kept m xs
  whole_table = kept m xs (passed m xs p).0

  -- has a sheet of at most 4,096 bytes
  pub written_short : length (sheet_for xs names tick) ≤ 4096
  written_short = sheet_short m xs names tick (rw (fine_refusal m xs names tick h) p)

  -- which says its jobs
  pub written_says : sheet_of (sheet_for xs names tick) ≡ says tick (jobs_with tick ns xs)
  written_says =
      reads (sheet_for xs names tick)
      (sheet
      (record {
        starts = record { tick_in = h.tick_in; lines = named_sheet h.named tick };
        good = good_jobs tick ns xs h.tick_in.1 h.named.each whole_table.tasks;
        short = written_short;
      })
      (subst Distinct (sym (names_same tick ns xs h.named.count)) h.distinct))

  -- and reads back as the same tick length, names and table
  pub written_reads : plan_sheet m (sheet_for xs names tick)
      ≡ record { refusal = taken; tick = tick; names = sets (zeros names_limit) 0 names; length = length names; plan = (plan_of m xs).plan }
  unfolding plan_sheet answered planned
  written_reads =
      rw (
        written_says,
        table_same tick ns xs h.tick_in.0 whole_table.whole h.named.count,
        names_same tick ns xs h.named.count,
        plan_number m xs,
        p,
        h.named.text,
      ) refl

-- the numbers of jobs are two for each name
ticks_count : (tick : ℕ) (js : List Job) → length (ticks_in tick js) ≡ 2 * length (names_in js)
ticks_count tick [] = refl
ticks_count tick (j ∷ js) = omega (arith, ticks_count tick js)

-- jobs of whole ticks are those of their names and their table
whole_jobs : {tick : ℕ} {js : List Job} → Each (Whole tick) js → jobs_with tick (names_in js) (ticks_in tick js) ≡ js
whole_jobs none = refl
whole_jobs (also {j} {js} w ws) =
    ap₂ (λ (x : Job) (l : List Job). x ∷ l) (ap₂ (λ (c t : ℕ). job j.name c t) (sym w.cost) (sym w.period)) (whole_jobs ws)

-- nothing is lost of any job
each_kept : (tick : ℕ) (js : List Job) → 0 < tick → Each (NoneLost tick) js
each_kept tick [] h = none
each_kept tick (j ∷ js) h =
    let r = none_lost tick j.cost j.period h in
    also (record { cost_covered = r.0; cost_near = r.1; period_near = r.2; period_kept = r.3 }) (each_kept tick js h)

module _ {s : List ℕ} {tick : ℕ} {js : List Job} where
  -- the names and the tick length of a sheet are such as writing takes
  pub said_fine : Says s (says tick js) → Fine (ticks_in tick js) (names_text (names_in js)) tick (names_in js)
  said_fine (sheet h d) = record {
    tick_in = h.starts.tick_in;
    named = record { text = refl; each = good_names h.good; count = omega (arith, ticks_count tick js) };
    distinct = d;
  }

  -- a sheet whose numbers are whole ticks, read and written, is the same bytes
  pub read_writes : Says s (says tick js) → Each (Whole tick) js → sheet_for (ticks_in tick js) (names_text (names_in js)) tick ≡ s
  read_writes (sheet h d) w =
      named_sheet (said_fine (sheet h d)).named tick ∙ ap (sheet_written tick) (whole_jobs w) ∙ sym h.starts.lines

  -- a sheet's costs and periods lose less than a tick
  pub no_time_lost : Says s (says tick js) → Each (NoneLost tick) js
  no_time_lost (sheet h d) = each_kept tick js h.starts.tick_in.0

module _ {m : ℕ} {s : List ℕ} (t : Taken m s) where
  -- its table, in ticks
  abbrev table : List ℕ
  table = ticks_in t.tick t.jobs

  -- its names, a name a line
  abbrev names : List ℕ
  names = names_text (names_in t.jobs)

  -- a sheet that is taken can be written again
  pub writes_again : (write_refusal m table names t.tick).no ≡ 0
  writes_again = rw (fine_refusal m table names t.tick (said_fine (written t))) t.admitted

  -- and then reads as before, whole ticks or not
  pub reads_again : plan_sheet m (sheet_for table names t.tick) ≡ plan_sheet m s
  reads_again = written_reads m table names t.tick (names_in t.jobs) (said_fine (written t)) t.admitted ∙ sym t.is
