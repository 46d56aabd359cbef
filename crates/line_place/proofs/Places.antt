-- The equations of the first line that starts with a word, as the code meets them.
use Rattle.std.specs.declared.option.Option.{Option}
use Rattle.std.specs.declared.option.Option.TheVariants.{Some, None}
use Rattle.std.specs.List.{find, range_with_len}
use Rattle.std.specs.Option.{is_some, unwrap_or, option_map}
use Prim.Native.Nat.{ℕ, zero, suc, ◌+◌}
use mathlib.Core.Path.{◌≡◌, refl, sym, ap, ◌∙◌}
use mathlib.Core.Bool.{Bool, true, false, cond}
use mathlib.Core.List.{List}
use native.Mathlib.Omega.{arith}
use lib.ListN.{drop}
use Rattle.lists.proofs.Tests.{by_cases}
use Rattle.scanning.specs.Word.{Word, starts, word_at}
use Rattle.line_place.specs.Place.{line_starts, line_here, first_place}

module _ (w s : List ℕ) (at : ℕ) where
  -- no line starts there
  pub no_start : line_starts s at ≡ false → false ≡ line_here w s at
  unfolding line_here
  no_start e = rw e refl

  -- where one starts, it is whether the word was read there
  pub word_read : {r : Word} → line_starts s at ≡ true → r ≡ word_at w s at → is_some r ≡ line_here w s at
  unfolding line_here word_at
  word_read e p = rw (e, p) (if_some _ (starts w (drop at s)))
    where
      if_some : (n : ℕ) (b : Bool) → is_some (cond b (Some n) None) ≡ b
      if_some n true = refl
      if_some n false = refl

-- of n places from one on, with what stands for none
found_from : (f : ℕ → Bool) (n at end : ℕ) → end ≡ at + n → unwrap_or (find f (range_with_len at n)) end ≡ first_place f n at
unfolding first_place
found_from f zero at end e = omega arith
found_from f (suc n) at end e = by_cases (f at) (λ h. rw h refl) (λ h. rw h (found_from f n (at + 1) end (omega arith)))

-- each as itself
same_lem : (r : Option ℕ) → option_map (λ x. x) r ≡ r
same_lem (Some x) = refl
same_lem None = refl

-- of the n first places, where the code finds one or none
pub first_found : (f : ℕ → Bool) (n : ℕ) (r : Option ℕ) → option_map (λ x. x) r ≡ find f (range_with_len 0 n) → unwrap_or r n ≡ first_place f n 0
first_found f n r e = ap (λ (q : Option ℕ). unwrap_or q n) (sym (same_lem r) ∙ e) ∙ found_from f n 0 n (omega arith)
