-- What the programs `sheet` and `table` write, in document 02's words.
use Rattle.std.specs.declared.option.Option.TheVariants.{Some, None}
use Prim.Native.Nat.{ℕ, ◌+◌, ◌≤◌}
use mathlib.Core.Path.{◌≡◌, refl, sym, ap, ap₂, ◌∙◌}
use mathlib.Core.List.{List, ◌++◌}
use native.Mathlib.Omega.{arith}
use borrow.Author.Tests.{ne_eqb}
use lib.ListN.{length, take, drop}
use lib.Seq.{sets, sets-eq, take_at}
use Rattle.lists.specs.Lists.{zeros}
use Rattle.units.specs.Refusals.{refusal, text_no}
use Rattle.writing.specs.Field.{field, line_end}
use Rattle.writing.specs.Refused.{refusal_text}
use Rattle.scanning.specs.Number.{Number}
use Rattle.table_text.specs.Text.{cores_line}
use Rattle.table_text.specs.Grammar.{Small, cores_written, tasks_written, NoCores}
use Rattle.table_text.proofs.Written.{cores_written_lem, cores_read}
use Rattle.admission.specs.Admission.{plan_refusal}
use Rattle.planning.specs.Plan.{plan_of}
use Rattle.listing.specs.Listing.{listing_text}
use Rattle.name_list.specs.Names.{names_text, names_of}
use Rattle.name_list.proofs.Lists.{names_back}
use Rattle.sheet_text.specs.Job.{Job, names_in, ticks_in}
use Rattle.sheet_text.specs.Sheet.{says}
use Rattle.sheet_text.specs.Grammar.{Says, sheet}
use Rattle.sheet_text.proofs.Says.{good_names}
use Rattle.sheet_text.proofs.EverySheet.{reads}
use Rattle.sheet_reading.specs.Read.{names_limit, unread, plan_sheet}
use Rattle.sheet_reading.specs.Read.{Sheet}
use Rattle.sheet_reading.proofs.Taken.{Taken, read_sheet, names_short}
use Rattle.sheet_reading.proofs.Words.{sheet_taken}
use Rattle.sheet_answer.specs.Input.{after_cores, input_sheet}
use Rattle.sheet_answer.specs.Answers.{name_lines, sheet_names, named_listing, table_lines, answer_by, sheet_text, table_text}
use Rattle.sheet_answer.proofs.Inputs.{input_none}
use Rattle.sheet_answer.proofs.TableBack.{table_back, cores_back}

-- an input that does not start with M's line
no_cores : (s : List ℕ) → NoCores s → input_sheet s ≡ unread (refusal text_no 1)
no_cores s h = sym (input_none s (go (cores_line s) refl))
  where
    go : (n : Number) → cores_line s ≡ n → n ≡ None
    go (Some (m, a)) e = let r = cores_read s m a e in absurd (h m (drop a s) r.0 r.1)
    go None e = refl

-- one that does, and the sheet after it
with_cores : (m : ℕ) (s : List ℕ) → Small m → input_sheet (cores_written m ++ s) ≡ plan_sheet m s
unfolding input_sheet after_cores
with_cores m s h = let w = cores_written_lem (cores_written m ++ s) m s h refl in rw w.1 (ap (plan_sheet m) w.2)

-- what either program writes
module _ (text : Sheet → List ℕ) where
  pub by_none : (s : List ℕ) → NoCores s → answer_by text (input_sheet s) ≡ refusal_text (refusal 16 1)
  unfolding unread
  by_none s h = rw (no_cores s h) refl

  module _ (m : ℕ) (s : List ℕ) (small : Small m) where
    pub by_refusal : ((plan_sheet m s).refusal.no ≡ 0 → ⊥) → answer_by text (input_sheet (cores_written m ++ s)) ≡ refusal_text (plan_sheet m s).refusal
    by_refusal n = rw (with_cores m s small, ne_eqb (plan_sheet m s).refusal.no 0 n) refl

    pub by_text : {tick : ℕ} {js : List Job} → Says s (says tick js) → (plan_refusal m (ticks_in tick js)).no ≡ 0
        → answer_by text (input_sheet (cores_written m ++ s)) ≡ text (read_sheet m tick js)
    by_text h t = rw (with_cores m s small, sheet_taken m h t) refl

-- the names that a sheet was read with
names_are : (m : ℕ) {s : List ℕ} {tick : ℕ} {js : List Job} → Says s (says tick js) → (plan_refusal m (ticks_in tick js)).no ≡ 0
    → sheet_names (read_sheet m tick js) ≡ names_in js
names_are m {s} {tick} {js} h t =
    let taken : Taken m s = record { tick = tick; jobs = js; said = reads s h; admitted = t; is = sheet_taken m h t } in
    let text = names_text (names_in js) in
    let room : length text ≤ length (zeros names_limit) = names_short taken in
    let first : take (length text) (sets (zeros names_limit) 0 text) ≡ text =
    ap (take (length text)) (sets-eq text (zeros names_limit) 0 (omega (arith, room)))
    ∙ take_at text (drop (0 + length text) (zeros names_limit)) (length text) refl in
    ap names_of first ∙ go h
  where
    go : Says s (says tick js) → names_of (names_text (names_in js)) ≡ names_in js
    go (sheet g d) = (names_back (names_in js) (good_names g.good)).1

module _ (m : ℕ) (s : List ℕ) (small : Small m) {tick : ℕ} {js : List Job} (h : Says s (says tick js))
    (t : (plan_refusal m (ticks_in tick js)).no ≡ 0) where
  -- `sheet`: the listing, unchanged, then the tick length, then a name for each task
  pub sheet_writes : sheet_text (cores_written m ++ s)
      ≡ listing_text (plan_of m (ticks_in tick js)).plan ++ (field "tick " tick ++ line_end) ++ name_lines 1 (names_in js)
  unfolding sheet_text named_listing
  sheet_writes =
      by_text named_listing m s small h t
      ∙ ap (λ (ns : List (List ℕ)). listing_text (plan_of m (ticks_in tick js)).plan ++ (field "tick " tick ++ line_end) ++ name_lines 1 ns) (names_are m h t)

  -- `table`: the table's text
  pub table_writes : table_text (cores_written m ++ s) ≡ cores_written m ++ tasks_written (ticks_in tick js)
  unfolding table_text table_lines
  table_writes =
      by_text table_lines m s small h t
      ∙ ap₂ (λ (k : ℕ) (xs : List ℕ). cores_written k ++ tasks_written xs) (cores_back m (ticks_in tick js) t) (table_back m (ticks_in tick js) t)
