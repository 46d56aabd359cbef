-- Document 02, R-1: the office's comma sheets, read and planned, and an accepted table written as a sheet.
use Prim.Native.Nat.{ℕ, ◌+◌, ◌-◌, ◌/◌, ◌≤◌, ◌<◌}
use mathlib.Core.Path.{◌≡◌, refl, sym, ap, ◌∙◌}
use mathlib.Core.Logic.{◌↔◌}
use mathlib.Core.Bool.{true, false}
use mathlib.Core.List.{List, [], ◌∷◌, ◌++◌, map}
use lib.ListN.{length, take, drop}
use lib.Seq.{sets}
use Rattle.lists.specs.Lists.{zeros}
use Rattle.units.specs.Refusals.{refusal}
use Rattle.writing.specs.Ascii.{ascii, newline}
use Rattle.writing.specs.Decimal.{decimal_of}
use Rattle.writing.specs.Field.{field, line_end}
use Rattle.writing.specs.Refused.{refusal_text}
use Rattle.line_place.specs.Place.{line_here}
use Rattle.table_text.specs.Text.{says as says_table, unreadable, text_of}
use Rattle.table_text.specs.Grammar.{Small, cores_written, tasks_written, NoCores}
use Rattle.admission.specs.Admission.{plan_refusal}
use Rattle.admission.specs.Given.{Taken, Given}
use Rattle.admission.proofs.Exactly.{exactly_taken}
use Rattle.planning.specs.Plan.{empty_plan, plan_of}
use Rattle.listing.specs.Listing.{listing_text}
use Rattle.name_list.specs.Names.{names_text}
use Rattle.tick_length.specs.Inner.{held}
use Rattle.sheet_text.specs.Whole.{Whole, NoneLost}
use Rattle.sheet_text.specs.Job.{Job, Each, comma, names_in, ticks_in}
use Rattle.sheet_text.specs.Sheet.{Said, says, refused_by, sheet_of}
use Rattle.sheet_text.specs.Grammar.{Says, sheet_written}
use Rattle.sheet_text.proofs.EverySheet.{said_exactly}
use Rattle.sheet_reading.specs.Read.{unread, plan_sheet}
use Rattle.sheet_reading.specs.Read.{Sheet}
use Rattle.sheet_reading.proofs.Held.{plan_held}
use Rattle.sheet_reading.proofs.Words.{sheet_taken, sheet_refused}
use Rattle.sheet_writing.specs.Write.{jobs_with, written_of, written_after, sheet_for}
use Rattle.sheet_writing.specs.Given.{Named, Fine, Given as WriteGiven}
use Rattle.sheet_writing.specs.Write.{Written}
use Rattle.sheet_writing.proofs.Exactly as Writing
use Rattle.sheet_laws.proofs.RoundTrip as Laws
use Rattle.sheet_laws.proofs.Examples as Sheet
use Rattle.sheet_answer.specs.Answers.{name_lines, named_listing, table_lines, sheet_text, table_text}
use Rattle.sheet_answer.proofs.Words as Programs
use Rattle.office_answer.specs.Office.{names_place, written_text, office_text}
use Rattle.office_answer.proofs.Words as Office
use Rattle.demands.proofs.Beneath.Sheets as Sheets

-- the byte between two fields of a line, and what ends it
pub bytes : (comma ≡ 44) × (newline ≡ 10)
bytes = (refl, refl)

-- what is read is what the sheet says by its form: a tick length and jobs; or 19, then 17, then 18, each exactly in its case
pub sheet_exactly : (s : List ℕ) (x : Said) → (sheet_of s ≡ x) ↔ Says s x
sheet_exactly s x = let e = said_exactly s x in (e.1, e.0)

-- a refused sheet has every other number 0
pub refused_numbers : (n i : ℕ) → unread (refusal n i) ≡ record { refusal = refusal n i; tick = 0; names = zeros 832; length = 0; plan = empty_plan }
unfolding unread
refused_numbers n i = refl

-- a core count and a sheet
module _ (m : ℕ) {s : List ℕ} where
  -- 17 to 19 name nothing
  pub refused_17_to_19 : {n : ℕ} → Says s (refused_by n) → plan_sheet m s ≡ unread (refusal n 0)
  refused_17_to_19 = sheet_refused m

  -- a sheet that says a tick length and jobs
  module _ {tick : ℕ} {js : List Job} (h : Says s (says tick js)) where
    -- is then refused as planning refuses its table, in exact ticks: each of 1 to 6 exactly in its case, with the task that it names
    pub planning_refuses : (n i : ℕ) → 0 < n → n ≤ 6 → ((plan_sheet m s).refusal ≡ refusal n i) ↔ Given m (ticks_in tick js) n i
    planning_refuses = Sheets.planning_refuses m h

    -- and has then every other number 0
    pub refused_empty : ((plan_refusal m (ticks_in tick js)).no ≡ 0 → ⊥) → plan_sheet m s ≡ unread (plan_refusal m (ticks_in tick js))
    refused_empty = Sheets.refused_empty m h

    -- it is taken exactly if its table is
    pub taken_exactly : ((plan_sheet m s).refusal ≡ refusal 0 0) ↔ Taken m (ticks_in tick js)
    taken_exactly = Sheets.taken_exactly m h

    -- and then gives the tick length, the names, a name a line and zeros after them, and the plan of that table
    pub taken_gives : Taken m (ticks_in tick js)
        → ((plan_sheet m s).tick ≡ tick)
        × ((plan_sheet m s).names ≡ names_text (names_in js) ++ zeros (832 - length (names_text (names_in js))))
        × ((plan_sheet m s).length ≡ length (names_text (names_in js)))
        × ((plan_sheet m s).plan ≡ (plan_of m (ticks_in tick js)).plan)
    taken_gives t =
        let e = sheet_taken m h ((exactly_taken m (ticks_in tick js)).1 t) in (
          ap (λ (x : Sheet). x.tick) e,
          Sheets.names_are m h t,
          ap (λ (x : Sheet). x.length) e,
          ap (λ (x : Sheet). x.plan) e,
        )

-- the numbers as 32 bits hold them have the plan and the refusal of the exact numbers
pub exact_numbers : (m : ℕ) (xs : List ℕ) → plan_of m (map held xs) ≡ plan_of m xs
exact_numbers = plan_held

-- no time is lost, and none added: a cost takes its ticks or a part of the last, a period has its ticks and a part of one more
pub no_time_lost : {s : List ℕ} {tick : ℕ} {js : List Job} → Says s (says tick js) → Each (NoneLost tick) js
no_time_lost = Laws.no_time_lost

-- the sheet of a table and its names: the tick length, then a line for each task with its name, its ticks times the tick length
pub sheet_of_table : {xs names : List ℕ} {ns : List (List ℕ)} → Named xs names ns → (tick : ℕ)
    → sheet_for xs names tick ≡ sheet_written tick (jobs_with tick ns xs)
sheet_of_table = Writing.named_sheet

-- a core count, a table, its names and a tick length, written into a lent buffer
module _ (m : ℕ) (xs names : List ℕ) (tick : ℕ) where
  -- each answer is given exactly in its case: 19, 17, 18, planning's, then 14, or the sheet's length
  pub writing_exactly : (room : ℕ) (w : Written) → (written_of m xs names tick room ≡ w) ↔ WriteGiven m xs names tick room w
  writing_exactly room w = let e = Writing.given_exactly m xs names tick room w in (e.1, e.0)

  module _ (buf : List ℕ) where
    -- a refusal changes no lent byte
    pub writing_refused : ((written_of m xs names tick (length buf)).refusal.no ≡ 0 → ⊥) → written_after m xs names tick buf ≡ buf
    writing_refused = Writing.buffer_kept m xs names tick buf

    -- else the buffer holds the sheet, its ticks times the tick length, and the bytes past it stay
    pub writing_taken : {ns : List (List ℕ)} → Fine xs names tick ns → (written_of m xs names tick (length buf)).refusal.no ≡ 0
        → written_after m xs names tick buf ≡ sheet_written tick (jobs_with tick ns xs) ++ drop (length (sheet_written tick (jobs_with tick ns xs))) buf
    writing_taken = Writing.buffer_after_lem m xs names tick buf

  -- what is written, for every table that plans, every tick length and all distinct names
  module _ (ns : List (List ℕ)) (fine : Fine xs names tick ns) (t : Taken m xs) where
    plans : (plan_refusal m xs).no ≡ 0
    plans = (exactly_taken m xs).1 t

    -- is at most 4,096 bytes
    pub written_short : length (sheet_written tick (jobs_with tick ns xs)) ≤ 4096
    written_short = rw (← Writing.named_sheet fine.named tick) (Laws.written_short m xs names tick ns fine plans)

    -- and reads back as the same table, names and tick length
    pub written_reads : plan_sheet m (sheet_written tick (jobs_with tick ns xs))
        ≡ record { refusal = refusal 0 0; tick = tick; names = sets (zeros 832) 0 names; length = length names; plan = (plan_of m xs).plan }
    written_reads = rw (← Writing.named_sheet fine.named tick) (Laws.written_reads m xs names tick ns fine plans)

-- and back: a sheet whose numbers are whole ticks, read and written, is the same bytes
pub read_writes : {s : List ℕ} {tick : ℕ} {js : List Job} → Says s (says tick js) → Each (Whole tick) js
    → sheet_written tick (jobs_with tick (names_in js) (ticks_in tick js)) ≡ s
read_writes h w = sym (Writing.named_sheet (Laws.said_fine h).named _) ∙ Laws.read_writes h w

-- the programs `sheet` and `table` are given a line with M and the sheet; where that line cannot be read 16 names line 1, before 19
pub no_cores : (s : List ℕ) → NoCores s → (sheet_text s ≡ refusal_text (refusal 16 1)) × (table_text s ≡ refusal_text (refusal 16 1))
unfolding sheet_text table_text
no_cores s h = (Programs.by_none named_listing s h, Programs.by_none table_lines s h)

module _ (m : ℕ) (s : List ℕ) (small : Small m) where
  -- a sheet that is refused is answered by its refusal's line
  pub refusal_written : ((plan_sheet m s).refusal.no ≡ 0 → ⊥)
      → (sheet_text (cores_written m ++ s) ≡ refusal_text (plan_sheet m s).refusal)
      × (table_text (cores_written m ++ s) ≡ refusal_text (plan_sheet m s).refusal)
  unfolding sheet_text table_text
  refusal_written n = (Programs.by_refusal named_listing m s small n, Programs.by_refusal table_lines m s small n)

  module _ {tick : ℕ} {js : List Job} (h : Says s (says tick js)) (t : Taken m (ticks_in tick js)) where
    -- `sheet` writes the listing, unchanged, then the tick length, then a name for each task
    pub sheet_writes : sheet_text (cores_written m ++ s)
        ≡ listing_text (plan_of m (ticks_in tick js)).plan ++ (field "tick " tick ++ line_end) ++ name_lines 1 (names_in js)
    sheet_writes = Programs.sheet_writes m s small h ((exactly_taken m (ticks_in tick js)).1 t)

    -- `table` writes the table's text
    pub table_writes : table_text (cores_written m ++ s) ≡ cores_written m ++ tasks_written (ticks_in tick js)
    table_writes = Programs.table_writes m s small h ((exactly_taken m (ticks_in tick js)).1 t)

-- the program `office` is given a table's text, a line `names TICK`, and a name a line; that line is the first that starts with `names `
pub names_line : (s : List ℕ) → ((q : ℕ) → q < names_place s → line_here (ascii "names ") s q ≡ false)
    × (names_place s < length s → line_here (ascii "names ") s (names_place s) ≡ true)
names_line s = (Office.names_first s, Office.names_here_lem s)

module _ (room : ℕ) (s : List ℕ) where
  -- 16 as by `plan` for what stands before it
  pub office_16 : (line : ℕ) → text_of (take (names_place s) s) ≡ unreadable line → office_text room s ≡ refusal_text (refusal 16 line)
  office_16 line e = Office.office_unreadable room s e

  module _ {m : ℕ} {xs : List ℕ} (e : text_of (take (names_place s) s) ≡ says_table m xs) where
    -- where there is none, the line after the last is named
    pub office_no_names : length s ≤ names_place s → office_text room s ≡ refusal_text (refusal 16 (2 + length xs / 2))
    office_no_names = Office.office_none room s e

    module _ (h : names_place s < length s) where
      -- 19 for what follows the word, where it is no number of 1 to 15 digits and a newline
      pub office_19 : ((tick : ℕ) (names : List ℕ) → tick < 1000000000000000 → drop (names_place s + 6) s ≡ decimal_of tick ++ newline ∷ names → ⊥)
          → office_text room s ≡ refusal_text (refusal 19 0)
      office_19 = Office.office_tick room s e h

      -- else the table is written with that tick length and the names after it, or the refusal's line
      pub office_writes : (tick : ℕ) (names : List ℕ) → tick < 1000000000000000 → drop (names_place s + 6) s ≡ decimal_of tick ++ newline ∷ names
          → office_text room s ≡ written_text room m xs names tick
      office_writes = Office.office_writes room s e h

-- document 02's examples: on 2 cores the sheet of cam and b is taken, with the table 5 6 and 1 3
pub office_example : ((plan_sheet 2 (ascii "1000\ncam,5000,6999\nb,1,3000\n")).refusal ≡ refusal 0 0)
    × ((plan_sheet 2 (ascii "1000\ncam,5000,6999\nb,1,3000\n")).plan ≡ (plan_of 2 (5 ∷ 6 ∷ 1 ∷ 3 ∷ [])).plan)
office_example = Sheet.read

-- written again it has whole ticks
pub office_again : sheet_for (5 ∷ 6 ∷ 1 ∷ 3 ∷ []) (ascii "cam\nb\n") 1000 ≡ ascii "1000\ncam,5000,6000\nb,1000,3000\n"
office_again = Sheet.written

-- a cost of fifteen digits is planning's 4, and the same name twice is 18 before any of planning's
pub office_refused : ((plan_sheet 1 (ascii "1\na,999999999999999,5\n")).refusal ≡ refusal 4 1)
    × ((plan_sheet 1 (ascii "1\na,1,1\na,0,0\n")).refusal ≡ refusal 18 0)
office_refused = (Sheet.long_cost, Sheet.name_twice_lem)
