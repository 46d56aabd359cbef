-- The equations of the whole input, as the code meets them.
use Prim.Native.Nat.{ℕ, ◌+◌, ◌-◌, ◌/◌, ◌≤◌, ◌<◌}
use mathlib.Core.Path.{◌≡◌, refl}
use mathlib.Core.List.{List}
use native.Mathlib.Nat.{sub-zero}
use borrow.Author.Tests.{lt-ltb, le-ltb, ne_eqb}
use lib.ListN.{length, take}
use Rattle.units.specs.Refusals.{refusal, text_no}
use Rattle.writing.specs.Refused.{refusal_text}
use Rattle.table_text.specs.Text.{Said, says, unreadable, text_of}
use Rattle.dispatch.specs.Record.{Fresh}
use Rattle.dispatch.specs.Record.{fresh_of}
use Rattle.calls_text.specs.Input.{input_limit, plays, bad_call, calls_place, after_calls, after_table, input_of}
use Rattle.player.specs.Played.{answers_text, fresh_text, given_text, table_played, play_text}
use Rattle.player.proofs.Plays.{calls_at}

module _ (s : List ℕ) (m : ℕ) (xs : List ℕ) where
  module _ (at : ℕ) {f : Fresh} (e : f ≡ fresh_of m xs) where
    -- a table that is refused
    pub refused : (f.refusal.no ≡ 0 → ⊥) → refusal_text f.refusal ≡ given_text s (plays m xs at)
    unfolding given_text fresh_text
    refused h = rw (← e, ne_eqb f.refusal.no 0 h) refl

    -- one that is taken
    pub taken : f.refusal.no ≡ 0 → answers_text f.next (calls_at s at) ≡ given_text s (plays m xs at)
    unfolding given_text fresh_text
    taken h = rw (← e, h) refl

  module _ (p : ℕ) where
    -- no line `calls`
    pub no_calls : length s ≤ p → refusal_text (refusal text_no (2 + length xs / 2)) ≡ table_played s p m xs
    unfolding given_text after_table
    no_calls h = rw (le-ltb p (length s) h) refl

    module _ (inside : p < length s) {bad : ℕ} (e : bad ≡ bad_call s (3 + length xs / 2) (p + 6)) where
      -- an unreadable call
      pub bad_call_lem : (bad ≡ 0 → ⊥) → refusal_text (refusal text_no bad) ≡ table_played s p m xs
      unfolding given_text after_table after_calls
      bad_call_lem h = rw (lt-ltb p (length s) inside, ← e, ne_eqb bad 0 h) refl

      -- none
      pub good_calls : bad ≡ 0 → given_text s (plays m xs (p + 6)) ≡ table_played s p m xs
      unfolding after_table after_calls
      good_calls h = rw (lt-ltb p (length s) inside, ← e, h) refl

module _ (s : List ℕ) where
  -- an input that is too long
  pub too_long : input_limit < length s → refusal_text (refusal text_no 0) ≡ play_text s
  unfolding play_text input_of given_text
  too_long h = rw (lt-ltb input_limit (length s) h) refl

  module _ (short : length s ≤ input_limit) {p : ℕ} (e : p ≡ calls_place s) {w : Said} (f : text_of (take (p - 0) s) ≡ w) where
    -- any other is its table and what follows
    given : given_text s (after_table s p w) ≡ play_text s
    unfolding play_text input_of
    given = rw (le-ltb input_limit (length s) short, ← e, ← sub-zero p, f) refl

  -- an unreadable table
  pub table_bad : length s ≤ input_limit → {p line : ℕ} → p ≡ calls_place s → text_of (take (p - 0) s) ≡ unreadable line
      → refusal_text (refusal text_no line) ≡ play_text s
  unfolding given_text after_table
  table_bad h e f = given h e f

  -- a readable one
  pub table_good : length s ≤ input_limit → {p m : ℕ} {xs : List ℕ} → p ≡ calls_place s → text_of (take (p - 0) s) ≡ says m xs
      → table_played s p m xs ≡ play_text s
  table_good h e f = given h e f
