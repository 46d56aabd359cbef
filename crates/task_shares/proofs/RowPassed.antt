-- A row of shares of which p cores are passed: their sum and how many are parts; and where the first part of all stands.
use Prim.Native.Nat.{ℕ, ◌+◌, ◌<◌}
use mathlib.Core.Path.{◌≡◌, refl, sym, ap, ◌∙◌}
use mathlib.Core.Bool.{not}
use mathlib.Core.List.{List, ◌∷◌}
use native.Mathlib.Omega.{arith}
use native.Mathlib.Numerals.{add-one}
use lib.Dec.{ltb}
use lib.ListN.{length, get_or, drop}
use lib.Seq.{drop-cons}
use borrow.Author.Tests.{ltb-false}
use Rattle.std.proofs.Common.{Option}
use Rattle.std.specs.Option.{unwrap_or}
use Rattle.std.specs.List.{position, position_or_len}
use Rattle.std.proofs.lemmas.List.Sums.{prefix_len-le-length}
use Rattle.std.proofs.lemmas.List.Recursion.{is_position_or_len}
use Rattle.units.specs.declared.share.Share.{Share}
use Rattle.units.specs.Units.{share, nums}
use Rattle.units.proofs.Units.{nums_length, nums_at}
use Rattle.units.specs.Limits.{cores_limit}
use Rattle.lists.specs.Lists.{total, parts, first_part, bit}
use Rattle.lists.proofs.Lists.{parts_cons}
use Rattle.lists.proofs.Tests.{by_cases}

module _ (ss : List Share) (p : ℕ) (h : p < length ss) where
  -- the share on core p, and those after it
  shares_from : drop p (nums ss) ≡ (get_or ss p (share 0)).0 ∷ drop (p + 1) (nums ss)
  shares_from = rw (add-one p, ← (nums_at ss p)) (drop-cons (nums ss) p 0 (omega (arith, nums_length ss)))

  -- a share is added
  pub sum_more : (n : ℕ) → n + total (drop p (nums ss)) ≡ total (nums ss) → (n + (get_or ss p (share 0)).0) + total (drop (p + 1) (nums ss)) ≡ total (nums ss)
  sum_more n e = omega (arith, ap total shares_from)

  -- and is one part if it is positive
  pub parts_more : (n : ℕ) → n + parts (drop p (nums ss)) ≡ parts (nums ss)
      → (n + bit (ltb 0 (get_or ss p (share 0)).0)) + parts (drop (p + 1) (nums ss)) ≡ parts (nums ss)
  parts_more n e = omega (arith, ap parts shares_from ∙ parts_cons (get_or ss p (share 0)).0 (drop (p + 1) (nums ss)))

-- the first part is the first of them
first_by : (ss : List Share) → first_part (nums ss) ≡ position_or_len (λ (s : Share). ltb 0 s.0) ss
first_by = is_position_or_len (λ (ss : List Share). first_part (nums ss)) (λ (s : Share). ltb 0 s.0) refl (λ s ss. search arith)

-- where it stands, and the core count where there is none
pub first_from : (ss : List Share) (r : Option ℕ) → length ss ≡ cores_limit → r ≡ position (λ (s : Share). ltb 0 s.0) ss
    → unwrap_or r cores_limit ≡ first_part (nums ss)
first_from ss r l e =
    let at : ℕ = position_or_len (λ (s : Share). ltb 0 s.0) ss in
    by_cases (ltb at (length ss))
    (λ t. rw (e, t) (sym (first_by ss)))
    (λ t. rw (e, t) (omega (arith, l, ltb-false at (length ss) t, prefix_len-le-length (λ (s : Share). not (ltb 0 s.0)) ss, first_by ss)))
