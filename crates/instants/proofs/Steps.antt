-- One task more.
use Prim.Native.Nat.{ℕ, ◌+◌, ◌-◌}
use mathlib.Core.Path.{◌≡◌}
use mathlib.Core.Bool.{Bool, true, false}
use mathlib.Core.List.{List}
use native.Mathlib.Numerals.{add-one}
use lib.ListN.{get_or, set}
use Rattle.units.specs.declared.ticks.Ticks.{Ticks}
use Rattle.units.specs.Units.{ticks}
use Rattle.fronts.specs.declared.Front.{Front}
use Rattle.fronts.specs.Front.{no_front, sees, ahead_of}
use Rattle.instants.specs.declared.Seen.{Seen}
use Rattle.instants.specs.Seen.{idle, better, seen_of, next_of}

module _ (fs : List Front) (t n : ℕ) {f : Front} (own : f ≡ get_or fs n no_front) where
  -- a task that waits is compared on its core
  module _ (hs : List ℕ) {ss : List Seen} (e : ss ≡ seen_of fs hs t n) {b : Bool} (s : b ≡ sees f t) where
    pub seen_more : b ≡ true → {x : Seen} → x ≡ better (get_or ss (f.core - 1) idle) (n + 1) f (get_or hs n 0)
        → set ss (f.core - 1) x ≡ seen_of fs hs t (n + 1)
    unfolding seen_of
    seen_more w q = rw (q, add-one n, ← e, ← own, ← s, w)

    pub seen_less : b ≡ false → ss ≡ seen_of fs hs t (n + 1)
    unfolding seen_of
    seen_less w = rw (add-one n, ← e, ← own, ← s, w)

  -- its release time ahead may come first
  pub next_more : (v : ℕ) {x y : Ticks} → x ≡ ticks (next_of fs t v n) → y ≡ ticks (ahead_of f t x.0) → y ≡ ticks (next_of fs t v (n + 1))
  unfolding next_of
  next_more v e q = rw (add-one n, ← own) (rw e at q)
