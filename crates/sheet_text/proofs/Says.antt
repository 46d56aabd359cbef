-- What a sheet says, as the code meets it, and what the answer gives.
use Rattle.std.specs.declared.result.Result.TheVariants.{Ok, Err}
use Rattle.std.specs.declared.option.Option.TheVariants.{Some, None}
use Prim.Native.Nat.{ℕ, zero, suc, ◌+◌, ◌≤◌, ◌<◌}
use mathlib.Core.Path.{◌≡◌, refl, ap, ap₂, ◌∙◌}
use mathlib.Core.Bool.{Bool, true, false}
use mathlib.Core.List.{List, [], ◌∷◌, ◌++◌, map}
use native.Mathlib.Omega.{arith}
use borrow.Author.Tests.{lt-ltb, le-ltb, ne_eqb, ltb-true, leb-true}
use lib.Dec.{ltb}
use lib.ListN.{length, take, drop, length-append, length-drop}
use lib.Seq.{sets, take_at}
use Rattle.lists.proofs.Tests.{and_left, and_right}
use Rattle.units.specs.Refusals.{sheet_no, name_no, tick_no}
use Rattle.writing.specs.Ascii.{newline}
use Rattle.writing.specs.Decimal.{decimal_of}
use Rattle.writing.specs.Wrote.{Wrote}
use Rattle.writing.proofs.Wrote.{whole}
use Rattle.tick_length.specs.Ticks.{tick_in, tick_limit}
use Rattle.tick_length.specs.Inner.{held}
use Rattle.names.specs.Name.{Name}
use Rattle.name_list.specs.Names.{names_text, twice, names_of}
use Rattle.name_list.proofs.Lists.{All, names_back}
use Rattle.sheet_text.specs.Job.{Job, none, also, comma, bad_job, names_in, ticks_in}
use Rattle.sheet_text.specs.Grammar.{AllGood, jobs_written}
use Rattle.sheet_text.specs.Sheet.{Said, says, refused_by, sheet_limit, tick_line, named, jobs_said, after_tick, sheet_of, table_of, end_of, answer_of, Reading, sheet_read}
use Rattle.sheet_text.proofs.Jobs.{jobs_at}
use Rattle.sheet_text.proofs.Written.{job_then, jobs_read}

-- the names of good jobs are names
pub good_names : {js : List Job} → AllGood js → All Name (names_in js)
good_names none i h = absurd (omega arith)
good_names (also g gs) zero h = g.name
good_names (also g gs) (suc i) h = good_names gs i (omega arith)

-- the names alone are no longer than the lines
names_shorter : (js : List Job) → length (names_text (names_in js)) ≤ length (jobs_written js)
names_shorter [] = omega arith
names_shorter (j ∷ js) =
    let end = decimal_of j.period ++ newline ∷ jobs_written js in
    let numbers = decimal_of j.cost ++ comma ∷ end in
    let a : length (names_text (names_in (j ∷ js))) ≡ length j.name + suc (length (names_text (names_in js))) =
    length-append j.name (newline ∷ names_text (names_in js)) in
    let b : length (jobs_written (j ∷ js)) ≡ length j.name + suc (length numbers) =
    ap length (job_then j (jobs_written js)) ∙ length-append j.name (comma ∷ numbers) in
    let c : length numbers ≡ length (decimal_of j.cost) + suc (length end) = length-append (decimal_of j.cost) (comma ∷ end) in
    let d : length end ≡ length (decimal_of j.period) + suc (length (jobs_written js)) = length-append (decimal_of j.period) (newline ∷ jobs_written js) in
    omega (arith, names_shorter js, a, b, c, d)

-- a text that was written from the start of a buffer that holds it is the part up to its end
pub part_is : {a b xs : List ℕ} {k : ℕ} → Wrote a 0 xs b k → length xs ≤ length a → take k b ≡ xs
part_is {a} {b} {xs} {k} w h =
    let e : k ≡ length xs = omega (arith, w.end) in
    ap₂ (λ (n : ℕ) (l : List ℕ). take n l) e (whole w h) ∙ take_at xs (drop (length xs) a) (length xs) refl

module _ (s : List ℕ) (from : ℕ) (short : length s ≤ sheet_limit) (fine : bad_job s from ≡ 0) where
  -- the names of a sheet fit a buffer of its length
  pub names_fit : length (names_text (names_in (jobs_at s from))) ≤ sheet_limit
  names_fit = omega (arith, names_shorter (jobs_at s from), length-drop from s, ap length (jobs_read s from fine).1)

  -- what is told of them as a list is told of the jobs
  pub told : {a b : List ℕ} {k : ℕ} {r : Bool} → Wrote a 0 (names_text (names_in (jobs_at s from))) b k → sheet_limit ≤ length a
      → r ≡ twice (names_of (take k b)) → r ≡ twice (names_in (jobs_at s from))
  told {a} {b} {k} w h e =
      e ∙ ap (λ (l : List ℕ). twice (names_of l)) (part_is w (omega (arith, names_fit)))
      ∙ ap twice (names_back (names_in (jobs_at s from)) (good_names (jobs_read s from fine).0)).1

-- what an answer gives of what a sheet says: the answer itself, and the table
abbrev Gives : ℕ → Said → Reading → List ℕ → List ℕ → Type 0
Gives from w r before after = (r ≡ answer_of from w) × (after ≡ sets before 0 (map held (table_of w)))

-- a refused sheet changes no number
pub gives_no : {w : Said} (from n : ℕ) (l : List ℕ) → w ≡ refused_by n → Gives from w (Err n) l l
unfolding answer_of table_of
gives_no from n l e = rw e (refl, refl)

-- another gives its numbers
pub gives_jobs : {w : Said} (from tick n : ℕ) (js : List Job) (before after : List ℕ) → w ≡ says tick js → n ≡ length (ticks_in tick js)
    → after ≡ sets before 0 (map held (ticks_in tick js)) → Gives from w (Ok (sheet_read tick from n)) before after
unfolding answer_of table_of
gives_jobs from tick n js before after e f g = rw (e, f) (refl, g)

-- what says the same gives the same
pub gives_same : {v w : Said} {a b : ℕ} {r : Reading} (before : List ℕ) {after : List ℕ} → a ≡ b → v ≡ w → Gives b w r before after → Gives a v r before after
gives_same before f e g = rw (f, e) g

-- a tick length in range
pub tick_range : (tick : ℕ) → tick_in tick ≡ true → (0 < tick) × (tick ≤ tick_limit)
tick_range tick e = (ltb-true 0 tick (and_left _ _ e), leb-true tick tick_limit (and_right (ltb 0 tick) _ e))

module _ (s : List ℕ) (tick at : ℕ) where
  -- 17: too long
  pub jobs_long : sheet_limit < length s → jobs_said s tick at ≡ refused_by sheet_no
  unfolding jobs_said
  jobs_long h = rw (lt-ltb sheet_limit (length s) h)

  module _ (short : length s ≤ sheet_limit) where
    -- 17: a line that cannot be read
    pub jobs_bad : (bad_job s at ≡ 0 → ⊥) → jobs_said s tick at ≡ refused_by sheet_no
    unfolding jobs_said
    jobs_bad h = rw (le-ltb sheet_limit (length s) short, ne_eqb (bad_job s at) 0 h)

    module _ (fine : bad_job s at ≡ 0) {r : Bool} (f : r ≡ twice (names_in (jobs_at s at))) where
      -- 18: the same name twice
      pub jobs_twice : r ≡ true → jobs_said s tick at ≡ refused_by name_no
      unfolding jobs_said named
      jobs_twice h = rw (le-ltb sheet_limit (length s) short, fine, ← f, h)

      -- the jobs
      pub jobs_said_lem : r ≡ false → jobs_said s tick at ≡ says tick (jobs_at s at)
      unfolding jobs_said named
      jobs_said_lem h = rw (le-ltb sheet_limit (length s) short, fine, ← f, h)

module _ (s : List ℕ) where
  -- 19: the first line is no number
  pub sheet_none : tick_line s ≡ None → sheet_of s ≡ refused_by tick_no
  unfolding sheet_of after_tick
  sheet_none e = rw e refl

  module _ {tick at : ℕ} (e : tick_line s ≡ Some (tick, at)) where
    -- 19: one out of range
    pub sheet_out : tick_in tick ≡ false → sheet_of s ≡ refused_by tick_no
    unfolding sheet_of after_tick
    sheet_out h = rw (e, h) refl

    -- the first line is a tick length
    pub sheet_is : tick_in tick ≡ true → sheet_of s ≡ jobs_said s tick at
    unfolding sheet_of after_tick
    sheet_is h = rw (e, h) refl

    -- the jobs start after it
    pub starts_at : end_of (tick_line s) ≡ at
    unfolding end_of
    starts_at = ap end_of e
