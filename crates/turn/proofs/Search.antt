-- The search for the core of the next run, core by core.
use Prim.Native.Nat.{ℕ, suc, ◌≤◌, ◌<◌}
use mathlib.Core.Path.{◌≡◌}
use mathlib.Core.List.{List}
use lib.ListN.{length, get_or, drop, drop_of_length-le}
use lib.Seq.{drop-cons}
use Rattle.turn.specs.declared.Best.{Best}
use Rattle.turn.specs.Turn.{better_core, best_from}

module _ (w t j : ℕ) (b : Best) (ss ns : List ℕ) where
  -- one core more
  pub search_next : j < length ss → j < length ns
      → best_from w t (suc j) b (drop j ss) (drop j ns)
      ≡ best_from w t (suc (suc j)) (better_core w t b (suc j) (get_or ss j 0) (get_or ns j 0)) (drop (suc j) ss) (drop (suc j) ns)
  unfolding best_from
  search_next h k = rw (drop-cons ss j 0 h, drop-cons ns j 0 k)

  -- the end
  pub search_end : length ss ≤ j → best_from w t (suc j) b (drop j ss) (drop j ns) ≡ b
  unfolding best_from
  search_end h = rw (drop_of_length-le ss h)
