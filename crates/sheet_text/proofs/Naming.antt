-- Storing the names of the jobs, a name a line.
use Rattle.std.specs.declared.option.Option.TheVariants.{Some, None}
use Prim.Native.Nat.{ℕ, ◌-◌, ◌≤◌}
use mathlib.Core.Path.{◌≡◌, refl, sym, ap, ◌∙◌}
use mathlib.Core.List.{List, [], ◌∷◌, ◌++◌, append-nil, append_assoc}
use native.Mathlib.Omega.{arith}
use borrow.Author.Tests.{ne_eqb}
use lib.ListN.{length, take, drop, length-append}
use Rattle.writing.specs.Ascii.{newline}
use Rattle.writing.specs.Wrote.{Wrote}
use Rattle.writing.proofs.Wrote.{none, then, recast}
use Rattle.scanning.specs.Lines.{unless_zero}
use Rattle.scanning.proofs.Sought.{told, untold}
use Rattle.names.specs.Name.{name_at, name_end}
use Rattle.names.proofs.Written.{name_read}
use Rattle.names.proofs.Parts.{parted}
use Rattle.name_list.specs.Names.{names_text}
use Rattle.sheet_text.specs.Job.{Job, comma, name_line, job_at, names_in}
use Rattle.sheet_text.proofs.Jobs.{jobs_at, job_kept, jobs_none, jobs_next}

module _ (s : List ℕ) (at : ℕ) where
  -- no name has no line
  pub line_none : None ≡ unless_zero (name_end s comma at) → [] ≡ name_line s at
  unfolding name_line
  line_none e = rw (untold e) refl

  -- a name's line is the name and a newline
  pub line_is : (name_end s comma at ≡ 0 → ⊥) → name_at s at ++ newline ∷ [] ≡ name_line s at
  unfolding name_line
  line_is h = rw (ne_eqb (name_end s comma at) 0 h) refl

-- the part of the text up to the comma, and a newline
part_is : (s : List ℕ) (at next : ℕ) → Some next ≡ unless_zero (name_end s comma at) → take (next - 1 - at) (drop at s) ++ newline ∷ [] ≡ name_line s at
part_is s at next e = ap (λ (n : List ℕ). n ++ newline ∷ []) (parted s comma at (omega arith) e).is ∙ line_is s at (told e).1

-- that part and the byte after it, a newline, are stored as the name's line
pub line_stored : (s : List ℕ) (at next : ℕ) {before between after : List ℕ} {from end k b : ℕ} → Some next ≡ unless_zero (name_end s comma at)
    → Wrote before from (take (next - 1 - at) (drop at s)) between end → Wrote between end (b ∷ []) after k → b ≡ newline
    → Wrote before from (name_line s at) after k
line_stored s at next e t n f = recast (part_is s at next e) (then t (rw f at n))

-- the names of the jobs from a place on
abbrev pub names_from : List ℕ → ℕ → List ℕ
names_from s at = names_text (names_in (jobs_at s at))

-- while names are stored: those before a place are, and with those that are left they make up the whole
pub record Naming (s : List ℕ) (from : ℕ) (before now : List ℕ) (at end : ℕ) : Type 0 where
  pub done : List ℕ
  pub wrote : Wrote before 0 done now end
  pub left : done ++ names_from s at ≡ names_from s from
  pub short : end ≤ at

-- at first none is
pub begun : (s : List ℕ) (from : ℕ) (l : List ℕ) → Naming s from l l from 0
begun s from l = record { done = []; wrote = none l 0; left = refl; short = omega arith }

module _ {s : List ℕ} {from : ℕ} {before now : List ℕ} {at end : ℕ} (h : Naming s from before now at end) where
  -- one more
  pub onward : {l : List ℕ} {c t next k : ℕ} → job_at s at ≡ Some (c, t, next) → Wrote now end (name_line s at) l k
      → Naming s from before l next k
  onward {l} {c} {t} {next} {k} p w =
      let q = job_kept s at c t next p in
      let r = name_read s comma at (omega arith) q.named in
      let e = line_is s at q.named in
      let n : name_line s at ++ names_from s next ≡ names_from s at =
      ap (λ (z : List ℕ). z ++ names_from s next) (sym e)
      ∙ append_assoc (name_at s at) (newline ∷ []) (names_from s next)
      ∙ ap (λ (js : List Job). names_text (names_in js)) (sym (jobs_next s at p)) in
      record {
        done = h.done ++ name_line s at;
        wrote = then h.wrote w;
        left = append_assoc h.done (name_line s at) (names_from s next) ∙ ap (λ (z : List ℕ). h.done ++ z) n ∙ h.left;
        short = omega (arith, h.short, w.end, ap length e, length-append (name_at s at) (newline ∷ []), r.1, q.ahead);
      }

  -- with no more jobs all are
  pub all : job_at s at ≡ None → Wrote before 0 (names_from s from) now end
  all e =
      recast (sym (append-nil h.done) ∙ ap (λ (js : List Job). h.done ++ names_text (names_in js)) (sym (jobs_none s at e)) ∙ h.left) h.wrote
