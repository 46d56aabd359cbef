-- What an answer says of the input, for whoever calls the reader.
use Rattle.std.specs.declared.result.Result.TheVariants.{Ok, Err}
use Rattle.std.specs.declared.option.Option.TheVariants.{Some, None}
use Prim.Native.Nat.{ℕ, ◌+◌, ◌≤◌, ◌<◌}
use mathlib.Core.Path.{◌≡◌, refl, sym, ap, ap₂, ◌∙◌}
use mathlib.Core.Bool.{Bool}
use mathlib.Core.List.{List}
use native.Mathlib.Omega.{arith}
use lib.ListN.{length, take, drop}
use lib.Seq.{sets, sets-eq, take_at}
use Rattle.table_text.specs.Text.{Said, says, unreadable as no_table, table_said}
use Rattle.table_text.proofs.Count.{text_fits, table_holds}
use Rattle.scanning.specs.Number.{Number}
use Rattle.day_text.specs.Line.{day_bound, stop_line, stop_place}
use Rattle.day_text.specs.declared.DayRead.{DayRead}
use Rattle.day_text.specs.Input.{
  DayReading,
  day_read,
  DaySays,
  rehearses,
  unreadable,
  lines_limit,
  after_stop,
  after_table,
  table_in,
  day_of,
  arrivals_said,
  day_answer,
}
use Rattle.day_text.proofs.Small.{Few, stop_small, arrivals_few}

-- what a readable input says: its table is that of the table's text, its stop is below 10^15, and its arrivals are at most 4,096
pub data Good (s : List ℕ) : DaySays → Type 0 where
  good : {m stop : ℕ} {xs ys : List ℕ} {more : Bool} → table_in s ≡ says m xs → stop < day_bound → Few lines_limit ys → Good s (rehearses m xs stop ys more)
  none : {line : ℕ} → Good s (unreadable line)

stop_good : (s : List ℕ) (m : ℕ) (xs : List ℕ) (n : Number) → table_in s ≡ says m xs → ((stop at : ℕ) → n ≡ Some (stop, at) → stop < day_bound)
    → Good s (after_stop s m xs n)
unfolding after_stop
stop_good s m xs (Some (stop, at)) e f = good e (f stop at refl) (arrivals_few lines_limit s at)
stop_good s m xs None e f = none

table_good : (s : List ℕ) (p : ℕ) (w : Said) → table_in s ≡ w → Good s (after_table s p w)
unfolding after_table
table_good s p (says m xs) e = stop_good s m xs (stop_line s p) e (λ stop at q. stop_small s p stop at q)
table_good s p (no_table line) e = none

pub day_good : (s : List ℕ) → Good s (day_of s)
unfolding day_of
day_good s = table_good s (stop_place s) (table_in s) refl

-- an input is read or not
no_reading : {A : Type 0} {m n stop k line : ℕ} {more : Bool} → ◌≡◌ {A = DayReading} (Err line) (Ok (day_read m n stop k more)) → A
no_reading e = let z : ◌≡◌ {A = ℕ} 0 1 = cc in absurd (omega arith)

said_unreadable : (w : DaySays) {line : ℕ} → day_answer w ≡ Err line → w ≡ unreadable line
unfolding day_answer
said_unreadable (rehearses m xs stop ys more) e = no_reading (sym e)
said_unreadable (unreadable k) {line} e = let z : k ≡ line = cc in rw z refl

-- the numbers that were stored make up what was said
record Told (s : List ℕ) (w : DaySays) (m n stop k : ℕ) (more : Bool) : Type 0 where
  is : w ≡ rehearses m (table_said (table_in s)) stop (arrivals_said w) more
  count : n ≡ length (table_said (table_in s))
  numbers : k ≡ length (arrivals_said w)
  small : stop < day_bound
  few : Few lines_limit (arrivals_said w)

told : (s : List ℕ) {w : DaySays} {a n z k : ℕ} {c : Bool} → Good s w → day_answer w ≡ Ok (day_read a n z k c) → Told s w a n z k c
unfolding day_answer arrivals_said table_said
told s {w} {a} {n} {z} {k} {c} (good {m} {stop} {xs} {ys} {more} t h f) e =
    let r : day_read m (length xs) stop (length ys) more ≡ day_read a n z k c = cc in
    let i : m ≡ a = ap (λ (d : DayRead). d.cores) r in
    let j : stop ≡ z = ap (λ (d : DayRead). d.stop) r in
    let l : more ≡ c = ap (λ (d : DayRead). d.more) r in
    record {
      is = rw (t, i, j, l) refl;
      count = rw t (sym (ap (λ (d : DayRead). d.count) r));
      numbers = sym (ap (λ (d : DayRead). d.numbers) r);
      small = rw j at h;
      few = f;
    }
told s none e = no_reading e

-- a list of 12,288 numbers holds them all
holds : (ys l : List ℕ) → length ys ≤ length l → take (length ys) (sets l 0 ys) ≡ ys
holds ys l h = ap (take (length ys)) (sets-eq ys l 0 (omega arith)) ∙ take_at ys (drop (0 + length ys) l) (length ys) refl

module _ (s : List ℕ) {r : DayReading} (e : r ≡ day_answer (day_of s)) where
  -- an unreadable input
  pub is_unreadable : {line : ℕ} → r ≡ Err line → day_of s ≡ unreadable line
  is_unreadable p = said_unreadable (day_of s) (sym e ∙ p)

  module _ {m n stop k : ℕ} {more : Bool} (p : r ≡ Ok (day_read m n stop k more)) where
    known : Told s (day_of s) m n stop k more
    known = told s (day_good s) (sym e ∙ p)

    -- a readable one has few numbers
    pub table_few : n ≤ 2048
    table_few = omega (arith, known.count, text_fits (take (stop_place s) s))

    pub numbers_few : k ≤ 12288
    numbers_few = let f = known.few in omega (arith, known.numbers, f.most, f.three)

    -- and they stand at the start of the lent lists
    pub is_read : (before lent : List ℕ) {table arrivals : List ℕ} → 2048 ≤ length before → 12288 ≤ length lent
        → table ≡ sets before 0 (table_said (table_in s)) → arrivals ≡ sets lent 0 (arrivals_said (day_of s))
        → day_of s ≡ rehearses m (take n table) stop (take k arrivals) more
    is_read before lent {table} {arrivals} h l t a =
        let x : take n table ≡ table_said (table_in s) = ap₂ (λ (j : ℕ) (z : List ℕ). take j z) known.count t
        ∙ table_holds (take (stop_place s) s) before h in
        let y : take k arrivals ≡ arrivals_said (day_of s) = ap₂ (λ (j : ℕ) (z : List ℕ). take j z) known.numbers a
        ∙ holds (arrivals_said (day_of s)) lent (omega (arith, known.numbers, numbers_few)) in
        rw (x, y) known.is
