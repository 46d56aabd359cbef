-- Lent bytes: what a listing answers and leaves in a lent buffer, of a record, of a table and for the host, and what the program writes.
-- The contracts of `list`, `list_table`, `yagomila_admit`, `yagomila_listing`, `read_text` and `answer` name these definitions.
use Prim.Native.Nat.{ℕ, ◌+◌, ◌*◌, ◌/◌, ◌%◌, ◌≤◌, ◌<◌}
use mathlib.Core.Path.{◌≡◌, refl, sym, ap, ◌∙◌}
use mathlib.Core.Logic.{◌⊎◌, ◌↔◌}
use mathlib.Core.Bool.{true, false}
use mathlib.Core.List.{List, [], ◌∷◌, ◌++◌}
use native.Mathlib.Omega.{arith}
use lib.Dec.{eqb}
use lib.IntN.{pos, neg_ℤ}
use lib.ListN.{length, get_or, drop}
use lib.Seq.{sets}
use borrow.Author.Tests.{eqb-false, ne_eqb}
use Rattle.units.specs.Refusals.{refusal}
use Rattle.units.specs.Refusals.{Refusal}
use Rattle.admission.specs.Admission.{plan_refusal}
use Rattle.admission.specs.Words.{CoresIn, tasks, cost, period}
use Rattle.admission.specs.Given.{Given, Taken}
use Rattle.admission.proofs.FirstThatApplies.{given, exactly_2, numbers}
use Rattle.planning.specs.Plan.{plan_of}
use Rattle.dispatch.specs.declared.Record.{Record}
use Rattle.dispatch.specs.Record.{fresh_of}
use Rattle.dispatch.specs.Sound.{sound_of}
use Rattle.dispatch.specs.Shape.{Good}
use Rattle.writing.specs.Ascii.{ascii}
use Rattle.writing.specs.Decimal.{decimal_of}
use Rattle.writing.specs.Refused.{refusal_text}
use Rattle.listing.specs.Listing.{listing_text}
use Rattle.listing.specs.Listed.{listed_of, buffer_after, table_listed, table_after}
use Rattle.listing.proofs.Example.{listing as listing01}
use Rattle.listing.proofs.TableFits.{taken_length}
use Rattle.listing.proofs.Listing.{record_determined}
use Rattle.table_text.specs.Text.{says, unreadable, text_of, table_said, answer_of, reading_refusal}
use Rattle.plan_answer.specs.Answer.{answer_text}
use Rattle.host.specs.Host.{table_in, admit_of, host_listed, host_after}
use Rattle.demands.proofs.Beneath.Lists.{is_taken, first, then_14, none, refused, accepted}
use Rattle.demands.proofs.Beneath.Bytes.{table_out, tasks_are, cost_is, period_is}
use Rattle.demands.proofs.Beneath.HostLists.{admitted, first as answered_first, then_14 as answered_14, the_length as answered_length, refused as answered_refused, accepted as answered_accepted}
use Rattle.dispatch.proofs.Refused.{refused_unsound}
use Rattle.demands.proofs.Beneath.RefusalLines.{alone, with_arrival, with_task, with_line_lem}
use Rattle.demands.proofs.Beneath.Program.{reading, unread_kept, first_16, then_planning, else_listed}
use Rattle.demands.proofs.Beneath.SaysTable.{says_table_lem}

-- a record handed in, and the lent buffer
module _ (r : Record) (buf : List ℕ) where
  -- 15 is given exactly if the record is unsound
  pub record_15 : ((listed_of r (length buf)).refusal ≡ refusal 15 0) ↔ (sound_of r ≡ false)
  unfolding listed_of
  record_15 =
      let f = first (sound_of r) (refusal 15 0) r.plan buf 15 0 (omega arith) (λ e. omega arith) in
      (λ e. (f.0 e).0, λ u. f.1 (u, refl))

  -- 14 exactly if it is sound and its listing is longer than the lent buffer
  pub record_14 : ((listed_of r (length buf)).refusal ≡ refusal 14 0) ↔ ((sound_of r ≡ true) × (length buf < length (listing_text r.plan)))
  unfolding listed_of
  record_14 = then_14 (sound_of r) (refusal 15 0) r.plan buf (λ u e. omega arith)

  -- none exactly if it is sound and its listing is no longer than that
  pub record_none : ((listed_of r (length buf)).refusal ≡ refusal 0 0) ↔ ((sound_of r ≡ true) × (length (listing_text r.plan) ≤ length buf))
  unfolding listed_of
  record_none = none (sound_of r) (refusal 15 0) r.plan buf (λ u e. omega arith)

  -- a refusal answers length 0 and changes no lent byte
  pub record_refused : ((listed_of r (length buf)).refusal.no ≡ 0 → ⊥) → ((listed_of r (length buf)).length ≡ 0) × (buffer_after r buf ≡ buf)
  unfolding listed_of buffer_after
  record_refused = refused (sound_of r) (refusal 15 0) r.plan buf

  -- else the listing's length is answered; the buffer holds the listing, and the bytes past it stay
  pub record_listed : (listed_of r (length buf)).refusal.no ≡ 0
      → ((listed_of r (length buf)).length ≡ length (listing_text r.plan))
      × (buffer_after r buf ≡ listing_text r.plan ++ drop (length (listing_text r.plan)) buf)
  unfolding listed_of buffer_after
  record_listed = accepted (sound_of r) (refusal 15 0) r.plan buf (λ u e. omega arith)

-- the empty record of a refused list is refused by 15, and no lent byte changes
pub empty_record : (m : ℕ) (xs buf : List ℕ) → ((fresh_of m xs).refusal.no ≡ 0 → ⊥)
    → ((listed_of (fresh_of m xs).next (length buf)).refusal ≡ refusal 15 0) × (buffer_after (fresh_of m xs).next buf ≡ buf)
empty_record m xs buf n =
    let r = (fresh_of m xs).next in
    let e = (record_15 r buf).1 (refused_unsound m xs n) in
    (e, (record_refused r buf (λ z. omega (arith, sym (ap (λ (x : Refusal). x.no) e) ∙ z))).1)

-- a core count, a table of numbers, cost then period for each task, and the lent buffer
module _ (m : ℕ) (xs buf : List ℕ) where
  -- planning's come first: each of 1 to 6 exactly in its case, with the task that it names
  pub table_planning : (n i : ℕ) → 0 < n → n ≤ 6 → ((table_listed m xs (length buf)).refusal ≡ refusal n i) ↔ Given m xs n i
  unfolding table_listed
  table_planning n i some few =
      let f = first (eqb (plan_refusal m xs).no 0) (plan_refusal m xs) (plan_of m xs).plan buf n i some (λ e. omega arith) in
      (λ e. (given m xs n i).0 (f.0 e).1, λ g. let e = (given m xs n i).1 g in f.1 (rw e (ne_eqb n 0 (λ z. omega arith)), e))

  -- then 14, exactly if none of them applies and the listing is longer than the lent buffer
  pub table_14 : ((table_listed m xs (length buf)).refusal ≡ refusal 14 0) ↔ (Taken m xs × (length buf < length (listing_text (plan_of m xs).plan)))
  unfolding table_listed
  table_14 =
      let f = then_14 (eqb (plan_refusal m xs).no 0) (plan_refusal m xs) (plan_of m xs).plan buf (λ u e. omega (arith, numbers m xs, e)) in
      (λ e. let h = f.0 e in ((is_taken m xs).0 h.0, h.1), λ h. f.1 ((is_taken m xs).1 h.0, h.1))

  -- none exactly if none of them applies and the listing is no longer than that
  pub table_none : ((table_listed m xs (length buf)).refusal ≡ refusal 0 0) ↔ (Taken m xs × (length (listing_text (plan_of m xs).plan) ≤ length buf))
  unfolding table_listed
  table_none =
      let f = none (eqb (plan_refusal m xs).no 0) (plan_refusal m xs) (plan_of m xs).plan buf (eqb-false (plan_refusal m xs).no 0) in
      (λ e. let h = f.0 e in ((is_taken m xs).0 h.0, h.1), λ h. f.1 ((is_taken m xs).1 h.0, h.1))

  -- a refusal answers length 0 and changes no lent byte
  pub table_refused : ((table_listed m xs (length buf)).refusal.no ≡ 0 → ⊥) → ((table_listed m xs (length buf)).length ≡ 0) × (table_after m xs buf ≡ buf)
  unfolding table_listed table_after
  table_refused = refused (eqb (plan_refusal m xs).no 0) (plan_refusal m xs) (plan_of m xs).plan buf

  -- else the listing's length is answered; the buffer holds the listing, and the bytes past it stay
  pub table_listed_lem : (table_listed m xs (length buf)).refusal.no ≡ 0
      → ((table_listed m xs (length buf)).length ≡ length (listing_text (plan_of m xs).plan))
      × (table_after m xs buf ≡ listing_text (plan_of m xs).plan ++ drop (length (listing_text (plan_of m xs).plan)) buf)
  unfolding table_listed table_after
  table_listed_lem = accepted (eqb (plan_refusal m xs).no 0) (plan_refusal m xs) (plan_of m xs).plan buf (eqb-false (plan_refusal m xs).no 0)

-- document 01's own listing: M = 4 and tasks 5 6, 4 6, 2 3, 2 3, 2 3, 1 2
pub own_listing : listing_text (plan_of 4 (5 ∷ 6 ∷ 4 ∷ 6 ∷ 2 ∷ 3 ∷ 2 ∷ 3 ∷ 2 ∷ 3 ∷ 1 ∷ 2 ∷ [])).plan ≡
    ascii "cores 4 common 6\n"
    ++ ascii "task 1 cost 5 period 6 weight 5 fixed 1:5 late 6\n"
    ++ ascii "task 2 cost 4 period 6 weight 4 fixed 2:4 late 9\n"
    ++ ascii "task 3 cost 2 period 3 weight 4 fixed 3:4 late 13\n"
    ++ ascii "task 4 cost 2 period 3 weight 4 fixed 4:4 late 8\n"
    ++ ascii "task 5 cost 2 period 3 weight 4 moves 1:1 2:2 3:1 late -1\n"
    ++ ascii "task 6 cost 1 period 2 weight 3 moves 3:1 4:2 late 5\n"
own_listing = listing01

-- what is listed can be told back: sound records with one listing have one plan
pub listing_says_plan : (r s : Record) → Good r → Good s → listing_text r.plan ≡ listing_text s.plan → r.plan ≡ s.plan
listing_says_plan = record_determined

-- and lists that are taken, with one listing, are one list
pub listing_says_list : (m n : ℕ) (xs ys : List ℕ) → Taken m xs → Taken n ys
    → listing_text (plan_of m xs).plan ≡ listing_text (plan_of n ys).plan → (m ≡ n) × (xs ≡ ys)
listing_says_list = says_table_lem

-- the table that the host hands in as bytes, eight for a task; task k, counted from 0
module _ (bytes : List ℕ) (whole : length bytes % 8 ≡ 0) where
  -- so many tasks
  pub tasks_in_bytes : tasks (table_in bytes) ≡ length bytes / 8
  tasks_in_bytes = tasks_are bytes whole

  -- its cost stands first, least byte first
  pub cost_in_bytes : (k : ℕ) → k < length bytes / 8 → cost (table_in bytes) k
      ≡ get_or bytes (8 * k) 0 + 256 * get_or bytes (8 * k + 1) 0 + 65536 * get_or bytes (8 * k + 2) 0 + 16777216 * get_or bytes (8 * k + 3) 0
  cost_in_bytes = cost_is bytes whole

  -- then its period
  pub period_in_bytes : (k : ℕ) → k < length bytes / 8 → period (table_in bytes) k
      ≡ get_or bytes (8 * k + 4) 0 + 256 * get_or bytes (8 * k + 5) 0 + 65536 * get_or bytes (8 * k + 6) 0 + 16777216 * get_or bytes (8 * k + 7) 0
  period_in_bytes = period_is bytes whole

-- the host's two calls
module _ (m : ℕ) (bytes : List ℕ) where
  -- the admission number is 0 or a refusal, each exactly in its case
  pub host_admission : (n : ℕ) → (admit_of m bytes ≡ n) ↔ ((i : ℕ) × Given m (table_in bytes) n i)
  unfolding admit_of
  host_admission n = admitted m (table_in bytes) n

  -- 2 exactly if, with a core count of 1 to 16, there are no bytes, bytes of over 64 tasks, or bytes that end inside a task
  pub host_2 : (admit_of m bytes ≡ 2) ↔ (CoresIn m × ((length bytes ≡ 0) ⊎ (512 < length bytes) ⊎ (length bytes % 8 ≡ 0 → ⊥)))
  unfolding admit_of
  host_2 = (
    λ e. let h = (exactly_2 m (table_in bytes)).0 e in (h.0, (table_out bytes).0 h.1),
    λ h. (exactly_2 m (table_in bytes)).1 (h.0, (table_out bytes).1 h.1),
  )

  -- the text that is listed
  abbrev listing : List ℕ
  listing = listing_text (plan_of m (table_in bytes)).plan

  module _ (buf : List ℕ) where
    -- the listing is answered by planning's refusal number made negative, exactly where that is the admission number
    pub host_planning : (n : ℕ) → 0 < n → n ≤ 6 → (host_listed m bytes (length buf) ≡ neg_ℤ (pos n)) ↔ (admit_of m bytes ≡ n)
    host_planning = answered_first m bytes buf

    -- then by 14 made negative, exactly if there is none and the listing is longer than the lent buffer
    pub host_14 : (host_listed m bytes (length buf) ≡ neg_ℤ (pos 14)) ↔ ((admit_of m bytes ≡ 0) × (length buf < length listing))
    host_14 = answered_14 m bytes buf

    -- else by its length in bytes
    pub host_length : (k : ℕ) → (host_listed m bytes (length buf) ≡ pos k) ↔ ((admit_of m bytes ≡ 0) × (length listing ≤ length buf) × (length listing ≡ k))
    host_length = answered_length m bytes buf

    -- no refusal changes a lent byte
    pub host_refused : (n : ℕ) → 0 < n → host_listed m bytes (length buf) ≡ neg_ℤ (pos n) → host_after m bytes buf ≡ buf
    host_refused = answered_refused m bytes buf

    -- else the buffer holds the listing, and the bytes past it stay
    pub host_listed_lem : (k : ℕ) → host_listed m bytes (length buf) ≡ pos k → host_after m bytes buf ≡ listing ++ drop (length listing) buf
    host_listed_lem = answered_accepted m bytes buf

  -- 15,960 bytes are enough for any listing
  pub host_enough : admit_of m bytes ≡ 0 → length listing ≤ 15960
  unfolding admit_of
  host_enough = taken_length m (table_in bytes)

-- a refusal's line: `refused 6`
pub refused_alone : (n : ℕ) → (n ≡ 16 → ⊥) → refusal_text (refusal n 0) ≡ ascii "refused " ++ decimal_of n ++ ascii "\n"
refused_alone = alone

-- `refused 3 task 2`
pub refused_task : (n i : ℕ) → n < 16 → 0 < i → refusal_text (refusal n i) ≡ ascii "refused " ++ decimal_of n ++ ascii " task " ++ decimal_of i ++ ascii "\n"
refused_task = with_task

-- `refused 16 line 4`
pub refused_line : (line : ℕ) → refusal_text (refusal 16 line) ≡ ascii "refused 16 line " ++ decimal_of line ++ ascii "\n"
refused_line = with_line_lem

-- `refused 25 arrival 3`
pub refused_arrival : (n i : ℕ) → 25 ≤ n → n ≤ 27 → 0 < i
    → refusal_text (refusal n i) ≡ ascii "refused " ++ decimal_of n ++ ascii " arrival " ++ decimal_of i ++ ascii "\n"
refused_arrival = with_arrival

-- a text s: its reading is refused by 16, naming a line, exactly if it can't be read there, and then no lent number changes
module _ (s : List ℕ) (line : ℕ) where
  pub reading_16 : (reading_refusal (answer_of (text_of s)) ≡ refusal 16 line) ↔ (text_of s ≡ unreadable line)
  reading_16 = reading (text_of s) line

  pub reading_refused : (table : List ℕ) → text_of s ≡ unreadable line → sets table 0 (table_said (text_of s)) ≡ table
  reading_refused = unread_kept (text_of s) line

-- what the program writes for it, into a buffer with room for any listing; the program's has 16,384 bytes
module _ (room : ℕ) (enough : 15960 ≤ room) (s : List ℕ) where
  -- 16 first, naming a line, exactly if the text can't be read there
  pub program_16 : (line : ℕ) → (answer_text room s ≡ refusal_text (refusal 16 line)) ↔ (text_of s ≡ unreadable line)
  program_16 = first_16 room enough s

  -- then planning's: each of 1 to 6, naming a task, exactly if the text says a list for which it is given
  pub program_planning : (n i : ℕ) → 0 < n → n ≤ 6
      → (answer_text room s ≡ refusal_text (refusal n i)) ↔ ((m : ℕ) × (xs : List ℕ) × (text_of s ≡ says m xs) × Given m xs n i)
  program_planning = then_planning room enough s

  -- else the listing: that of a list that is taken, exactly if the text says that list
  pub program_listed : (m : ℕ) (xs : List ℕ) → Taken m xs → (answer_text room s ≡ listing_text (plan_of m xs).plan) ↔ (text_of s ≡ says m xs)
  program_listed = else_listed room enough s
