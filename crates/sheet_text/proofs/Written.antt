-- A line that is written at a place is read there, and one that is read is written there.
use Rattle.std.specs.declared.option.Option.TheVariants.{Some, None}
use Prim.Native.Nat.{ℕ, zero, suc, ◌+◌, ◌≤◌, ◌<◌}
use mathlib.Core.Path.{◌≡◌, refl, sym, ap, ap₂, ◌∙◌}
use mathlib.Core.Logic.{inl}
use mathlib.Core.List.{List, [], ◌∷◌, ◌++◌, append_assoc}
use native.Mathlib.Omega.{arith}
use borrow.Author.Tests.{ltb-true, ltb-false}
use lib.ListN.{length, drop, length-append, length-drop, drop_of_length-le}
use lib.Dec.{ltb}
use Rattle.lists.proofs.Tests.{by_cases}
use Rattle.writing.specs.Ascii.{newline}
use Rattle.writing.specs.Decimal.{decimal_of}
use Rattle.scanning.specs.Lines.{pair_end}
use Rattle.scanning.specs.Line.{Pair}
use Rattle.scanning.proofs.Sought.{Sought, first, later, here, ended, other_told}
use Rattle.scanning.proofs.WrittenLines.{field_written, field_read, pair_by_written, pair_by_read}
use Rattle.names.specs.Name.{name_at, name_end}
use Rattle.names.proofs.Written.{name_written, name_read}
use Rattle.sheet_text.specs.Job.{Job, none, also, job, comma, nanos_bound, job_at, job_end, bad_job}
use Rattle.sheet_text.specs.Sheet.{tick_line}
use Rattle.sheet_text.specs.Grammar.{Good, AllGood, tick_written, job_written, jobs_written}
use Rattle.sheet_text.proofs.Jobs.{job_is, job_kept, jobs_at, jobs_end, jobs_next}

-- the first line and what follows it
tick_then : (tick : ℕ) (rest : List ℕ) → tick_written tick ++ rest ≡ decimal_of tick ++ newline ∷ rest
tick_then tick rest = append_assoc (decimal_of tick) (newline ∷ []) rest

-- a job's line and what follows it
pub job_then : (j : Job) (rest : List ℕ)
    → job_written j ++ rest ≡ j.name ++ comma ∷ (decimal_of j.cost ++ comma ∷ (decimal_of j.period ++ newline ∷ rest))
job_then j rest =
    append_assoc (j.name ++ comma ∷ decimal_of j.cost ++ comma ∷ decimal_of j.period) (newline ∷ []) rest
    ∙ append_assoc (j.name ++ comma ∷ decimal_of j.cost) (comma ∷ decimal_of j.period) (newline ∷ rest)
    ∙ append_assoc j.name (comma ∷ decimal_of j.cost) (comma ∷ (decimal_of j.period ++ newline ∷ rest))

-- a line has bytes
job_long : (j : Job) (rest : List ℕ) → 0 < length (job_written j ++ rest)
job_long j rest =
    let l = comma ∷ (decimal_of j.cost ++ comma ∷ (decimal_of j.period ++ newline ∷ rest)) in
    rw (job_then j rest) (omega (arith, length-append j.name l))

module _ (s : List ℕ) where
  -- the first line
  pub tick_written_lem : (tick : ℕ) (rest : List ℕ) → tick < nanos_bound → s ≡ tick_written tick ++ rest → (a : ℕ) × (tick_line s ≡ Some (tick, a))
      × (drop a s ≡ rest)
  tick_written_lem tick rest h e =
      let f = field_written nanos_bound s newline 0 tick rest h (inl (omega arith)) (e ∙ tick_then tick rest) in
      (0 + length (decimal_of tick) + 1, f.0, f.1)

  pub tick_read : (tick a : ℕ) → tick_line s ≡ Some (tick, a) → s ≡ tick_written tick ++ drop a s
  tick_read tick a e =
      let f = field_read nanos_bound s newline 0 tick a (omega arith) (omega arith) e in
      f.1 ∙ sym (tick_then tick (drop a s))

  -- a job's line
  pub job_written_lem : (at : ℕ) (j : Job) (rest : List ℕ) → Good j → drop at s ≡ job_written j ++ rest
      → (a : ℕ) × (name_at s at ≡ j.name) × (job_at s at ≡ Some (j.cost, j.period, a)) × (drop a s ≡ rest)
  job_written_lem at j rest h e =
      let later = decimal_of j.cost ++ comma ∷ (decimal_of j.period ++ newline ∷ rest) in
      let n = name_written s comma at j.name later h.name (inl (omega arith)) (e ∙ job_then j rest) in
      let p = pair_by_written nanos_bound comma s (at + length j.name + 1) j.cost j.period rest (inl (omega arith)) h.cost h.period n.2 in
      (p.0, n.0, sym (job_is s at (sym (other_told (λ z. omega (arith, z, n.1)) ∙ ap Some n.1))) ∙ p.1, p.2)

  pub job_read : (at c t a : ℕ) → job_at s at ≡ Some (c, t, a)
      → Good (job (name_at s at) c t) × (drop at s ≡ job_written (job (name_at s at) c t) ++ drop a s)
  job_read at c t a e =
      let k = job_kept s at c t a e in
      let n = name_read s comma at (omega arith) k.named in
      let p = pair_by_read nanos_bound comma s (name_end s comma at) c t a (omega arith) (omega arith) k.numbers in (
        record { name = n.0; cost = k.cost; period = k.period },
        n.3 ∙ ap (λ (l : List ℕ). name_at s at ++ comma ∷ l) p ∙ sym (job_then (job (name_at s at) c t) (drop a s)),
      )

  -- the place after a job's line
  end_is : (at : ℕ) {c t a : ℕ} → job_at s at ≡ Some (c, t, a) → job_end s at ≡ a
  unfolding pair_end
  end_is at e = ap pair_end e

  end_none : (at : ℕ) → job_at s at ≡ None → job_end s at ≡ 0
  unfolding pair_end
  end_none at e = ap pair_end e

  module _ (from : ℕ) where
    -- the search for an unreadable line stands at a place
    abbrev At : ℕ → ℕ → Type 0
    At line at = Sought (job_end s) (length s) 2 from line at

    -- it passes a job's line
    passed : (line at : ℕ) {c t a : ℕ} → At line at → job_at s at ≡ Some (c, t, a) → At (line + 1) a
    passed line at {c} {t} {a} q e =
        let k = job_kept s at c t a e in
        later (job_end s) (length s) 2 from line at q k.inside (end_is at e) (omega (arith, k.further))

    -- it ends where no job is read
    stopped : (line at : ℕ) → At line at → job_at s at ≡ None → at < length s → bad_job s from ≡ line
    stopped line at q e i = here (job_end s) (length s) 2 from line at q i (end_none at e)

    -- the lines of jobs that are written are read as those
    lines_written : {js : List Job} → AllGood js → (line at : ℕ) → At line at → drop at s ≡ jobs_written js → (jobs_at s at ≡ js) × (bad_job s from ≡ 0)
    lines_written none line at q e =
        let k : length s ≤ at = omega (arith, length-drop at s, ap length e) in
        (jobs_end s at k, ended (job_end s) (length s) 2 from line at q k)
    lines_written (also {j} {js} h hs) line at q e =
        let w = job_written_lem at j (jobs_written js) h e in
        let r = lines_written hs (line + 1) w.0 (passed line at q w.2) w.3 in
        (jobs_next s at w.2 ∙ ap₂ (λ (n : List ℕ) (l : List Job). job n j.cost j.period ∷ l) w.1 r.0, r.1)

    module _ (fine : bad_job s from ≡ 0) where
      -- the jobs that are read from a place on are written there
      abbrev Read : ℕ → Type 0
      Read at = AllGood (jobs_at s at) × (drop at s ≡ jobs_written (jobs_at s at))

      -- so are none at the end
      read_end : (at : ℕ) → length s ≤ at → Read at
      read_end at h = rw (jobs_end s at h) (none, drop_of_length-le s h)

      -- and a line's, if those of the later lines are
      read_line : (line at : ℕ) → 2 ≤ line → At line at → at < length s → ((a : ℕ) → at + 6 ≤ a → At (line + 1) a → Read a)
          → (p : Pair) → job_at s at ≡ p → Read at
      read_line line at k q i f None e = absurd (omega (arith, sym (stopped line at q e i) ∙ fine))
      read_line line at k q i f (Some (c, t, a)) e =
          let w = job_read at c t a e in
          let r = f a (job_kept s at c t a e).further (passed line at q e) in
          rw (jobs_next s at e) (also w.0 r.0, w.1 ∙ ap (λ (l : List ℕ). job_written (job (name_at s at) c t) ++ l) r.1)

      lines_read : (f line at : ℕ) → length s ≤ at + f → 2 ≤ line → At line at → Read at
      lines_read zero line at h k q = read_end at (omega arith)
      lines_read (suc f) line at h k q =
          by_cases (ltb at (length s))
          (λ i. read_line line at k q (ltb-true at (length s) i) (λ a g r. lines_read f (line + 1) a (omega arith) (omega arith) r) (job_at s at) refl)
          (λ i. read_end at (ltb-false at (length s) i))

    -- jobs that are written from a place on are read there, and no line is unreadable
    pub jobs_written_lem : {js : List Job} → AllGood js → drop from s ≡ jobs_written js → (jobs_at s from ≡ js) × (bad_job s from ≡ 0)
    jobs_written_lem h e = lines_written h 2 from (first (job_end s) (length s) 2 from) e

    -- where no line is unreadable, the jobs that are read from there on are written there
    pub jobs_read : bad_job s from ≡ 0 → AllGood (jobs_at s from) × (drop from s ≡ jobs_written (jobs_at s from))
    jobs_read fine = lines_read fine (length s) 2 from (omega arith) (omega arith) (first (job_end s) (length s) 2 from)
