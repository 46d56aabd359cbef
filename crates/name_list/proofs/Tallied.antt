-- The names of a list are counted, as the code meets it.
use Rattle.std.specs.declared.option.Option.TheVariants.{Some, None}
use Prim.Native.Nat.{ℕ, ◌+◌, ◌≤◌, ◌<◌}
use mathlib.Core.Path.{◌≡◌, refl, sym, ap}
use mathlib.Core.List.{List}
use native.Mathlib.Omega.{arith}
use borrow.Author.Tests.{eq-eqb, ne_eqb}
use lib.ListN.{length}
use Rattle.writing.specs.Ascii.{newline}
use Rattle.scanning.specs.Lines.{unless_zero}
use Rattle.scanning.proofs.Sought.{Sought, first, later, here, ended, told, untold}
use Rattle.names.specs.Name.{name_end}
use Rattle.name_list.specs.Names.{names_of, bad_name, names_said}
use Rattle.name_list.proofs.Lines.{line_ahead, line_ends, names_here, names_none, names_later}

-- while names are counted: so many lines are names, and with those from a place on they are all
pub record Tallied (s : List ℕ) (at count : ℕ) : Type 0 where
  pub sought : Sought (name_end s newline) (length s) 1 0 (count + 1) at
  pub all : length (names_of s) ≡ count + length (names_here s at)

-- a line has a byte at least
pub ahead : (s : List ℕ) (at count : ℕ) → Tallied s at count → count ≤ at
ahead s at count h = omega (arith, h.sought.ahead)

-- at first none is counted
pub none_yet : (s : List ℕ) → Tallied s 0 0
none_yet s = record { sought = first _ _ _ _; all = omega arith }

module _ (s : List ℕ) (at count : ℕ) (h : Tallied s at count) where
  module _ (p : None ≡ unless_zero (name_end s newline at)) where
    -- each line is a name
    pub said_count : length s ≤ at → Some count ≡ names_said s
    unfolding names_said
    said_count k =
        let e : count ≡ length (names_of s) = omega (arith, h.all, ap length (names_none s at p)) in
        rw (eq-eqb (bad_name s) 0 (ended _ _ _ _ _ _ h.sought k)) (ap Some e)

    -- a line is none
    pub said_unreadable : at < length s → None ≡ names_said s
    unfolding names_said
    said_unreadable k =
        let e : bad_name s ≡ count + 1 = here _ _ _ _ _ _ h.sought k (untold p) in
        rw (ne_eqb (bad_name s) 0 (λ z. omega (arith, z, e))) refl

  -- one name more
  pub one_more : {next : ℕ} → Some next ≡ unless_zero (name_end s newline at) → Tallied s next (count + 1)
  one_more p =
      record {
        sought = later _ _ _ _ _ _ h.sought (omega (arith, line_ahead s at p, line_ends s at p)) (sym (told p).0) (line_ahead s at p);
        all = omega (arith, h.all, ap length (names_later s at p));
      }
