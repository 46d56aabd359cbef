-- The equations of the jobs' lines, as the code meets them: one line and those after it.
use Rattle.std.specs.declared.option.Option.TheVariants.{Some, None}
use Prim.Native.Nat.{ℕ, zero, suc, ◌+◌, ◌≤◌, ◌<◌}
use mathlib.Core.Path.{◌≡◌, refl, sym, ap, ◌∙◌}
use mathlib.Core.List.{List, [], ◌∷◌}
use native.Mathlib.Omega.{arith}
use borrow.Author.Tests.{lt-ltb, le-ltb, ne_eqb, eqb-true, eqb-false}
use lib.Dec.{ltb, eqb}
use lib.ListN.{length}
use Rattle.lists.proofs.Tests.{by_cases}
use Rattle.scanning.specs.Lines.{unless_zero}
use Rattle.scanning.specs.Line.{pair_by, Pair}
use Rattle.scanning.proofs.Sought.{told, untold, zero_told, other_told}
use Rattle.scanning.proofs.Fields.{pair_by_kept, no_pair, pair_place}
use Rattle.names.specs.Name.{name_at, name_end}
use Rattle.names.proofs.Written.{name_ahead, name_read}
use Rattle.sheet_text.specs.Job.{Job, job, comma, nanos_bound, after_name, job_at, then_jobs, jobs_from}

module _ (s : List ℕ) (at : ℕ) where
  -- no name, no job
  pub job_none : None ≡ unless_zero (name_end s comma at) → None ≡ job_at s at
  unfolding job_at after_name
  job_none e = rw (untold e) refl

  -- after a name its numbers decide
  pub job_is : {a : ℕ} → Some a ≡ unless_zero (name_end s comma at) → pair_by nanos_bound comma s a ≡ job_at s at
  unfolding job_at after_name
  job_is {a} e = rw ((told e).0, ne_eqb _ 0 (told e).1) refl

-- a job that was read has a name; its numbers are below the bound, and its line has four bytes or more after the name
pub record Kept (s : List ℕ) (at c t a : ℕ) : Type 0 where
  pub named : name_end s comma at ≡ 0 → ⊥
  pub numbers : pair_by nanos_bound comma s (name_end s comma at) ≡ Some (c, t, a)
  pub cost : c < nanos_bound
  pub period : t < nanos_bound
  pub ahead : name_end s comma at + 4 ≤ a
  pub further : at + 6 ≤ a
  pub inside : at < length s

pub job_kept : (s : List ℕ) (at c t a : ℕ) → job_at s at ≡ Some (c, t, a) → Kept s at c t a
job_kept s at c t a e = by_cases (eqb (name_end s comma at) 0) (λ p. absurd (bare (eqb-true _ 0 p))) (λ p. good (eqb-false _ 0 p))
  where
    bare : name_end s comma at ≡ 0 → ⊥
    bare p = no_pair (job_none s at (sym (zero_told p)) ∙ e)

    good : (name_end s comma at ≡ 0 → ⊥) → Kept s at c t a
    good h =
        let q = job_is s at (sym (other_told h)) ∙ e in
        let k = pair_by_kept nanos_bound comma s (name_end s comma at) c t a (omega arith) q in
        record {
          named = h;
          numbers = q;
          cost = k.0;
          period = k.1;
          ahead = k.2;
          further = omega (arith, k.2, name_ahead s comma at h);
          inside = omega (arith, name_ahead s comma at h, (name_read s comma at (omega arith) h).2);
        }

-- a later place gives the same jobs, the rest of them
then_same : (at : ℕ) (n : List ℕ) (p : Pair) {f g : ℕ → List Job} → ((c t next : ℕ) → p ≡ Some (c, t, next) → f next ≡ g next)
    → then_jobs f n p ≡ then_jobs g n p
unfolding then_jobs
then_same at n (Some (c, t, next)) h = ap (λ (js : List Job). job n c t ∷ js) (h c t next refl)
then_same at n None h = refl

-- past the end there is none
past : (s : List ℕ) (f at : ℕ) → length s ≤ at → jobs_from f s at ≡ []
unfolding jobs_from
past s zero at h = refl
past s (suc f) at h = rw (le-ltb at (length s) h) refl

-- where no job is read, none is left
none : (s : List ℕ) (f at : ℕ) → job_at s at ≡ None → jobs_from f s at ≡ []
unfolding jobs_from then_jobs
none s zero at e = refl
none s (suc f) at e = by_cases (ltb at (length s)) (λ h. rw (h, e) refl) (λ h. rw h refl)

-- any count of steps that is enough gives the same jobs
enough : (s : List ℕ) (f g at : ℕ) → length s ≤ at + f → length s ≤ at + g → jobs_from f s at ≡ jobs_from g s at
unfolding jobs_from
enough s zero g at h k = sym (past s g at (omega arith))
enough s (suc f) zero at h k = past s (suc f) at (omega arith)
enough s (suc f) (suc g) at h k =
    by_cases (ltb at (length s))
    (λ e. rw e (then_same at (name_at s at) (job_at s at)
    (λ c t next p. let q = (job_kept s at c t next p).further in enough s f g next (omega (arith, q)) (omega (arith, q)))))
    (λ e. rw e refl)

-- the jobs from a place on
abbrev pub jobs_at : List ℕ → ℕ → List Job
jobs_at s at = jobs_from (length s) s at

module _ (s : List ℕ) (at : ℕ) where
  -- at the end there is none
  pub jobs_end : length s ≤ at → jobs_at s at ≡ []
  jobs_end h = past s (length s) at h

  -- where no job is read, none is left
  pub jobs_none : job_at s at ≡ None → jobs_at s at ≡ []
  jobs_none e = none s (length s) at e

  -- a job that is read, then the later ones
  pub jobs_next : {c t next : ℕ} → job_at s at ≡ Some (c, t, next) → jobs_at s at ≡ job (name_at s at) c t ∷ jobs_at s next
  unfolding jobs_from then_jobs
  jobs_next e =
      enough s (length s) (suc (length s)) at (omega arith) (omega arith)
      ∙ rw (lt-ltb at (length s) (job_kept s at _ _ _ e).inside, e) refl

-- the place after a job's line lies ahead
pub job_ahead : (s : List ℕ) (at after : ℕ) → Some after ≡ pair_place (job_at s at) → at < after
unfolding pair_place
job_ahead s at after e = go (job_at s at) refl e
  where
    go : (p : Pair) → job_at s at ≡ p → Some after ≡ pair_place p → at < after
    go (Some (c, t, a)) q r = let z : after ≡ a = cc in omega (arith, z, (job_kept s at c t a q).further)
    go None q r = let z : ◌≡◌ {A = ℕ} 0 1 = cc in absurd (omega arith)
