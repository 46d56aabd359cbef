-- A call's line that can be read has nine bytes or more.
use Rattle.std.specs.declared.option.Option.TheVariants.{Some, None}
use Rattle.std.specs.Prelude.{Option, ◌<◌}
use Prim.Native.Nat.{ℕ, ◌+◌, ◌≤◌}
use mathlib.Core.Path.{◌≡◌, refl}
use mathlib.Core.List.{List}
use native.Mathlib.Omega.{arith}
use Rattle.units.specs.declared.ticks.Ticks.{Ticks}
use Rattle.writing.specs.Ascii.{ascii}
use Rattle.scanning.specs.Line.{pair_at}
use Rattle.scanning.specs.Word.{word_at}
use Rattle.scanning.specs.Line.{Pair}
use Rattle.scanning.specs.Word.{Word}
use Rattle.scanning.proofs.Fields.{pair_kept, pair_ends}
use Rattle.writing.specs.Ascii.{blank}
use lib.ListN.{length}
use Rattle.scanning.proofs.Words.{word_here}
use Rattle.calls_text.specs.Line.{call_bound, as_call, call_or, look_line, finish_line, call_line}
use Rattle.dispatch.specs.declared.call.Call.{Call}
use Rattle.dispatch.specs.declared.call.Call.TheVariants.{Release, Finish, Look}
use Rattle.calls_text.specs.Line.{CallLine}

-- a line that can be read ends k bytes or more after a place
abbrev pub Reach : ℕ → ℕ → CallLine → Type 0
Reach k at (Some (c, next)) = at + k ≤ next
Reach k at None = 0 ≤ k

-- so it does from an earlier place
further : (j k at from : ℕ) (line : CallLine) → at + k ≤ from + j → Reach j from line → Reach k at line
further j k at from (Some (c, next)) e h = omega (arith, e, h)
further j k at from None e h = omega arith

-- the numbers after a word take four bytes or more
numbers_reach : (call : ℕ → Ticks → Call) (at : ℕ) (p : Pair) → ((x y next : ℕ) → p ≡ Some (x, y, next) → at + 4 ≤ next) → Reach 4 at (as_call call p)
unfolding as_call
numbers_reach call at (Some (x, y, next)) g = g x y next refl
numbers_reach call at None g = omega arith

module _ (s : List ℕ) (at : ℕ) where
  -- a word five or more
  word_reach : (call : ℕ → Ticks → Call) (other : CallLine) (w : Word) → ((next : ℕ) → w ≡ Some next → at + 5 ≤ next) → Reach 9 at other
      → Reach 9 at (call_or call s other w)
  unfolding call_or
  word_reach call other (Some next) f h =
      further 4 9 at next (as_call call (pair_at call_bound s next)) (omega (arith, f next refl))
      (numbers_reach call next (pair_at call_bound s next) (λ x y n e. (pair_kept call_bound s next x y n (omega arith) e).2))
  word_reach call other None f h = h

  look_reach : Reach 9 at (look_line s at)
  unfolding look_line
  look_reach = word_reach Look None (word_at (ascii "look ") s at) (λ next e. omega (arith, (word_here (ascii "look ") s at e).1)) (omega arith)

  finish_reach : Reach 9 at (finish_line s at)
  unfolding finish_line
  finish_reach =
      word_reach Finish (look_line s at) (word_at (ascii "finish ") s at) (λ next e. omega (arith, (word_here (ascii "finish ") s at e).1)) look_reach

  pub call_reach : Reach 9 at (call_line s at)
  unfolding call_line
  call_reach =
      word_reach Release (finish_line s at) (word_at (ascii "release ") s at) (λ next e. omega (arith, (word_here (ascii "release ") s at e).1)) finish_reach

-- where a line can be read the next one lies ahead
pub line_reach : (s : List ℕ) (at : ℕ) {c : Call} {next : ℕ} → call_line s at ≡ Some (c, next) → at + 9 ≤ next
line_reach s at e = rw e at (call_reach s at)

-- a line that can be read ends within n bytes
abbrev Within : ℕ → CallLine → Type 0
Within n (Some (c, next)) = next ≤ n
Within n None = 0 ≤ n

numbers_within : (s : List ℕ) (call : ℕ → Ticks → Call) (at : ℕ) (p : Pair) → pair_at call_bound s at ≡ p → Within (length s) (as_call call p)
unfolding as_call pair_at
numbers_within s call at (Some (x, y, next)) e = pair_ends call_bound blank s at x y next e
numbers_within s call at None e = omega arith

word_within : (s : List ℕ) (call : ℕ → Ticks → Call) (other : CallLine) (w : Word) → Within (length s) other → Within (length s) (call_or call s other w)
unfolding call_or
word_within s call other (Some next) h = numbers_within s call next (pair_at call_bound s next) refl
word_within s call other None h = h

call_within : (s : List ℕ) (at : ℕ) → Within (length s) (call_line s at)
unfolding look_line finish_line call_line
call_within s at =
    word_within s Release (finish_line s at) (word_at (ascii "release ") s at)
    (word_within s Finish (look_line s at) (word_at (ascii "finish ") s at) (word_within s Look None (word_at (ascii "look ") s at) (omega arith)))

-- and it stands within the text
pub line_inside : (s : List ℕ) (at : ℕ) {c : Call} {next : ℕ} → call_line s at ≡ Some (c, next) → at < length s
line_inside s at {c} {next} e = let w : next ≤ length s = rw e at (call_within s at) in omega (arith, w, line_reach s at e)

-- the place after a call's line, if it can be read
unfoldable pub call_place : CallLine → Option ℕ
call_place (Some (c, next)) = Some next
call_place None = None

-- it lies ahead
pub call_ahead : (s : List ℕ) (at after : ℕ) → Some after ≡ call_place (call_line s at) → at < after
unfolding call_place
call_ahead s at after e = go (call_line s at) (call_reach s at) e
  where
    go : (line : CallLine) → Reach 9 at line → Some after ≡ call_place line → at < after
    go (Some (c, next)) h q = let z : after ≡ next = cc in omega (arith, z, h)
    go None h q = let z : ◌≡◌ {A = ℕ} 0 1 = cc in absurd (omega arith)
