-- The answers of both programs, as the code meets them.
use Rattle.std.specs.declared.option.Option.TheVariants.{Some, None}
use Rattle.std.specs.declared.result.Result.{Result}
use Rattle.std.specs.declared.result.Result.TheVariants.{Ok, Err}
use Rattle.std.specs.Result.{result_unwrap_or}
use Prim.Native.Nat.{ℕ, ◌≤◌}
use mathlib.Core.Path.{◌≡◌, refl, sym, ap, ◌∙◌, subst}
use mathlib.Core.List.{List}
use native.Mathlib.Omega.{arith}
use borrow.Author.Tests.{ne_eqb, le-leb}
use lib.ListN.{length, take, length-take}
use lib.Seq.{length-sets}
use Rattle.lists.specs.Lists.{zeros}
use Rattle.units.specs.declared.refusal.Refusal.{Refusal as Refused}
use Rattle.soundness.proofs.Taken.{plan_number, plan_kept}
use Rattle.soundness.proofs.PlannedSound.{plan_sound_lem}
use Rattle.soundness.proofs.PlannedShape.{started_plan}
use Rattle.writing.specs.Field.{field, line_end}
use Rattle.writing.specs.Wrote.{Wrote}
use Rattle.writing.specs.Refused.{refusal_text}
use Rattle.writing.proofs.Wrote.{then, fitted}
use Rattle.scanning.specs.Number.{Number}
use Rattle.table_text.specs.Text.{cores_line}
use Rattle.listing.specs.Listing.{listing_text}
use Rattle.listing.specs.Listed.{listing_limit, listing_told, plan_listed, plan_after}
use Rattle.listing.specs.Listed.{Listed}
use Rattle.listing.proofs.Fits.{listing_length}
use Rattle.name_list.specs.Names.{names_text, names_of}
use Rattle.sheet_text.specs.Job.{names_in, ticks_in}
use Rattle.sheet_reading.specs.Read.{names_limit, unread, plan_sheet}
use Rattle.sheet_reading.specs.Read.{Sheet}
use Rattle.sheet_reading.proofs.Taken.{Taken, is_taken, names_short}
use Rattle.sheet_answer.specs.Inner.{answer_limit, Listable}
use Rattle.sheet_answer.specs.Input.{after_cores, input_sheet}
use Rattle.sheet_answer.specs.Answers.{name_lines, named_listing, answer_by}

-- a sheet that is taken can be listed
taken_listable : {m : ℕ} {s : List ℕ} → Taken m s → Listable (plan_sheet m s)
taken_listable {m} {s} t =
    let xs = ticks_in t.tick t.jobs in
    subst Listable (sym t.is) (record {
      shaped = started_plan m xs (plan_number m xs ∙ t.admitted);
      sound = plan_sound_lem m xs t.admitted;
      tasks = record { count = (plan_kept m xs t.admitted).tasks_few; lines = (started_plan m xs (plan_number m xs ∙ t.admitted)).lines };
      few = names_short t;
      long = length-sets (zeros names_limit) 0 (names_text (names_in t.jobs));
    })

-- and so can that of an input
pub listable : (s : List ℕ) {sh : Sheet} → sh ≡ input_sheet s → sh.refusal.no ≡ 0 → Listable sh
unfolding input_sheet after_cores unread
listable s {sh} e h = rw e (go (cores_line s) (rw e at h))
  where
    go : (n : Number) → (after_cores s n).refusal.no ≡ 0 → Listable (after_cores s n)
    go (Some (m, at)) k = taken_listable (is_taken m _ k)
    go None k = absurd (omega (arith, k))

-- what is taken of an answer where there is none is no length
told_length : (x : Result ℕ Refused) → (listing_told x).length ≡ result_unwrap_or x 0
told_length (Ok n) = refl
told_length (Err r) = refl

-- the listing of such a sheet's plan, in a buffer that holds any answer
pub listed : {sh : Sheet} (g : Listable sh) {a b : List ℕ} (x : Result ℕ Refused) {n : ℕ} (room : answer_limit ≤ length a)
    → listing_told x ≡ plan_listed sh.plan (length a) → b ≡ plan_after sh.plan a → n ≡ result_unwrap_or x 0
    → Wrote a 0 (listing_text sh.plan) b n × (n ≤ listing_limit)
unfolding plan_listed plan_after
listed {sh} g {a} {b} x {n} room e f p =
    let short : length (listing_text sh.plan) ≤ listing_limit = listing_length sh.plan g.shaped g.sound in
    let h : length (listing_text sh.plan) ≤ length a = omega (arith, short, room) in
    let z = le-leb (length (listing_text sh.plan)) (length a) h in
    let q : n ≡ length (listing_text sh.plan) = p ∙ sym (told_length x) ∙ ap (λ (l : Listed). l.length) (rw z at e) in
    rw (q, f, z) (fitted h, short)

-- the names of such a sheet
pub names_few : {sh : Sheet} → Listable sh → length (take sh.length sh.names) ≤ names_limit
names_few {sh} g = omega (arith, length-take sh.length sh.names, g.few)

-- the three parts of the answer, one after the other
pub parts : (sh : Sheet) {a b c d e : List ℕ} {i j k l : ℕ} → Wrote a 0 (listing_text sh.plan) b i → Wrote b i (field "tick " sh.tick) c j
    → Wrote c j line_end d k → Wrote d k (name_lines 1 (names_of (take sh.length sh.names))) e l → Wrote a 0 (named_listing sh) e l
unfolding named_listing
parts sh w x y z = then (then w (then x y)) z

-- a refused sheet is answered by its refusal's line
module _ (text : Sheet → List ℕ) {sh : Sheet} {q : Sheet} (e : sh ≡ q) where
  pub answer_no : (sh.refusal.no ≡ 0 → ⊥) → refusal_text sh.refusal ≡ answer_by text q
  answer_no h = rw (← e, ne_eqb sh.refusal.no 0 h) refl

  -- another by its text
  pub answer_is : sh.refusal.no ≡ 0 → text sh ≡ answer_by text q
  answer_is h = rw (← e, h) refl
