-- Storing the ticks of the jobs.
use Rattle.std.specs.declared.option.Option.TheVariants.{Some, None}
use Prim.Native.Nat.{ℕ, ◌+◌, ◌*◌, ◌≤◌}
use mathlib.Core.Path.{◌≡◌, refl, sym, ap, ◌∙◌}
use mathlib.Core.List.{List, ◌∷◌, map}
use native.Mathlib.Omega.{arith}
use lib.ListN.{length, set, length-set}
use lib.Seq.{sets}
use Rattle.table_text.proofs.Stored.{stored_two}
use Rattle.tick_length.specs.Ticks.{cost_ticks, period_ticks}
use Rattle.tick_length.specs.Inner.{held}
use Rattle.names.specs.Name.{name_at}
use Rattle.sheet_text.specs.Job.{Job, job, job_at, ticks_in}
use Rattle.sheet_text.proofs.Jobs.{jobs_at, job_kept, jobs_none, jobs_next}

-- the numbers of the jobs from a place on, as they are held
abbrev numbers_at : ℕ → List ℕ → ℕ → List ℕ
numbers_at tick s at = map held (ticks_in tick (jobs_at s at))

-- while ticks are stored: those of i jobs stand in the table, and those that are left make up the whole
pub record Stored (s : List ℕ) (tick from : ℕ) (before now : List ℕ) (i at : ℕ) : Type 0 where
  pub ahead : i ≤ at
  pub within : i ≤ length s
  pub long : length now ≡ length before
  pub count : length (ticks_in tick (jobs_at s from)) ≡ 2 * i + length (ticks_in tick (jobs_at s at))
  pub table : sets before 0 (numbers_at tick s from) ≡ sets now (2 * i) (numbers_at tick s at)

-- at first none stands
pub start : (s : List ℕ) (tick from : ℕ) (l : List ℕ) → Stored s tick from l l 0 from
start s tick from l = record { ahead = omega arith; within = omega arith; long = refl; count = omega arith; table = refl }

module _ (s : List ℕ) (tick from : ℕ) (before : List ℕ) {now : List ℕ} (i at : ℕ) (h : Stored s tick from before now i at) where
  -- the two numbers of one more job
  pub more : {l₁ l₂ : List ℕ} {x y : ℕ} (c t : ℕ) {next : ℕ} → job_at s at ≡ Some (c, t, next)
      → x ≡ held (cost_ticks tick c) → y ≡ held (period_ticks tick t) → l₁ ≡ set now (2 * i) x → l₂ ≡ set l₁ (2 * i + 1) y
      → Stored s tick from before l₂ (i + 1) next
  more {l₁} {l₂} {x} {y} c t {next} p u v a b =
      let q : jobs_at s at ≡ job (name_at s at) c t ∷ jobs_at s next = jobs_next s at p in
      record {
        ahead = omega (arith, h.ahead, (job_kept s at c t next p).further);
        within = omega (arith, h.ahead, (job_kept s at c t next p).inside);
        long = ap length (b ∙ ap (λ (l : List ℕ). set l (2 * i + 1) y) a) ∙ simp length-set h.long;
        count = omega (arith, h.count, ap (λ (js : List Job). length (ticks_in tick js)) q);
        table = h.table ∙ rw (q, b, a, u, v) (stored_two now i (held (cost_ticks tick c)) (held (period_ticks tick t)) (numbers_at tick s next));
      }

  -- with no more jobs all stand
  pub whole : job_at s at ≡ None → (2 * i ≡ length (ticks_in tick (jobs_at s from))) × (now ≡ sets before 0 (numbers_at tick s from))
  whole e =
      let z = jobs_none s at e in
      (omega (arith, h.count, ap (λ (js : List Job). length (ticks_in tick js)) z), sym (h.table ∙ rw z refl))
