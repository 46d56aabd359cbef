-- How many numbers the arrivals have, and that each is below 10^15.
use Rattle.std.specs.declared.option.Option.TheVariants.{Some, None}
use Prim.Native.Nat.{ℕ, zero, suc, ◌+◌, ◌*◌, ◌≤◌, ◌<◌}
use mathlib.Core.Path.{◌≡◌, refl}
use mathlib.Core.List.{List, [], ◌∷◌}
use native.Mathlib.Omega.{arith}
use lib.ListN.{length, get_or}
use Rattle.writing.specs.Ascii.{ascii, blank, newline}
use Rattle.scanning.specs.Line.{Pair, field_at, pair_at}
use Rattle.scanning.specs.Word.{Word, word_at}
use Rattle.scanning.proofs.Fields.{field_kept, pair_kept, no_value}
use Rattle.scanning.specs.Number.{Number}
use Rattle.day_text.specs.Line.{ArrivalLine, day_bound, stop_after, stop_line, after_time, from_time, arrival_line}
use Rattle.day_text.specs.Input.{then_later, arrivals_from}

-- a stop is below 10^15
pub stop_small : (s : List ℕ) (at stop next : ℕ) → stop_line s at ≡ Some (stop, next) → stop < day_bound
unfolding stop_line stop_after
stop_small s at stop next = go (word_at (ascii "rehearse ") s at)
  where
    go : (w : Word) → stop_after s w ≡ Some (stop, next) → stop < day_bound
    go (Some p) e = (field_kept day_bound s newline p stop next (omega arith) e).0
    go None e = no_value e

-- the numbers of a line that can be read are below 10^15, and it has six bytes or more
abbrev Kept : ℕ → ArrivalLine → Type 0
Kept at (Some (t, i, l, next)) = (t < day_bound) × (i < day_bound) × (l < day_bound) × (at + 6 ≤ next)
Kept at None = 0 ≤ at

rest_kept : (at from t : ℕ) (p : Pair) → t < day_bound → at + 2 ≤ from → ((x y a : ℕ) → p ≡ Some (x, y, a) → (x < day_bound) × (y < day_bound) × (from + 4 ≤ a))
    → Kept at (after_time t p)
unfolding after_time
rest_kept at from t (Some (x, y, a)) h k f = let g = f x y a refl in (h, g.0, g.1, omega (arith, g.2))
rest_kept at from t None h k f = omega arith

time_kept : (s : List ℕ) (at : ℕ) (n : Number) → ((v a : ℕ) → n ≡ Some (v, a) → (v < day_bound) × (at + 2 ≤ a)) → Kept at (from_time s n)
unfolding from_time
time_kept s at (Some (t, from)) f =
    rest_kept at from t (pair_at day_bound s from) (f t from refl).0 (f t from refl).1 (λ x y a e. pair_kept day_bound s from x y a (omega arith) e)
time_kept s at None f = omega arith

line_kept : (s : List ℕ) (at : ℕ) → Kept at (arrival_line s at)
unfolding arrival_line
line_kept s at = time_kept s at (field_at day_bound s blank at) (λ v a e. field_kept day_bound s blank at v a (omega arith) e)

-- three numbers for each of k arrivals, at most f, each below 10^15
pub record Few (f : ℕ) (ys : List ℕ) : Type 0 where
  pub k : ℕ
  pub most : k ≤ f
  pub three : length ys ≡ 3 * k
  pub small : (i : ℕ) → get_or ys i 0 < day_bound

none_few : (f : ℕ) → Few f []
none_few f = record { k = 0; most = omega arith; three = refl; small = λ i. omega arith }

more_few : (f t i l : ℕ) (ys : List ℕ) → t < day_bound → i < day_bound → l < day_bound → Few f ys → Few (suc f) (t ∷ i ∷ l ∷ ys)
more_few f t i l ys a b c h = record { k = suc h.k; most = omega (arith, h.most); three = omega (arith, h.three); small = at }
  where
    at : (j : ℕ) → get_or (t ∷ i ∷ l ∷ ys) j 0 < day_bound
    at zero = a
    at (suc zero) = b
    at (suc (suc zero)) = c
    at (suc (suc (suc j))) = h.small j

later_few : (f at : ℕ) (later : ℕ → List ℕ) (line : ArrivalLine) → Kept at line → ((next : ℕ) → Few f (later next)) → Few (suc f) (then_later later line)
unfolding then_later
later_few f at later (Some (t, i, l, next)) h g = more_few f t i l (later next) h.0 h.1 h.2 (g next)
later_few f at later None h g = none_few (suc f)

-- the arrivals from a place on
pub arrivals_few : (f : ℕ) (s : List ℕ) (at : ℕ) → Few f (arrivals_from f s at)
unfolding arrivals_from
arrivals_few zero s at = none_few 0
arrivals_few (suc f) s at = later_few f at (λ next. arrivals_from f s next) (arrival_line s at) (line_kept s at) (λ next. arrivals_few f s next)
