-- Refusal r names arrival k exactly if it is the first that is refused, and by r.
use Prim.Native.Nat.{ℕ, zero, suc, ◌+◌, ◌<◌}
use mathlib.Core.Path.{◌≡◌, refl, sym, ap, ◌∙◌}
use mathlib.Core.Logic.{◌↔◌}
use mathlib.Core.List.{List}
use native.Mathlib.Omega.{arith}
use lib.Dec.{eqb}
use borrow.Author.Tests.{ne_eqb, eqb-true}
use Rattle.lists.proofs.Tests.{by_cases}
use Rattle.units.specs.Refusals.{refusal}
use Rattle.units.specs.Refusals.{Refusal}
use Rattle.planning.specs.declared.Plan.{Plan}
use Rattle.arrivals.specs.Arrivals.{arrival_tests, refusal_from, arrivals_refusal}
use Rattle.arrivals.specs.Fine.{First}

module _ (pl : Plan) (xs : List ℕ) where
  -- the first of n arrivals from one on
  record FirstFrom (i n r m : ℕ) : Type 0 where
    j : ℕ
    there : j < n
    named : m ≡ i + j + 1
    gives : arrival_tests pl xs (i + j) ≡ r
    before : (l : ℕ) → l < j → arrival_tests pl xs (i + l) ≡ 0

  -- one that passes stands before it
  further : (i n r m : ℕ) → arrival_tests pl xs i ≡ 0 → FirstFrom (i + 1) n r m → FirstFrom i (suc n) r m
  further i n r m e f = record {
    j = suc f.j;
    there = omega (arith, f.there);
    named = omega (arith, f.named);
    gives = let z : i + suc f.j ≡ i + 1 + f.j = omega arith in rw z f.gives;
    before = early;
  }
    where
      early : (l : ℕ) → l < suc f.j → arrival_tests pl xs (i + l) ≡ 0
      early zero h = let z : i + 0 ≡ i = omega arith in rw z e
      early (suc l) h = let z : i + suc l ≡ i + 1 + l = omega arith in rw z (f.before l (omega arith))

  from_refused : (i n r m : ℕ) → (r ≡ 0 → ⊥) → refusal_from pl xs i n ≡ refusal r m → FirstFrom i n r m
  unfolding refusal_from
  from_refused i zero r m f e = absurd (f (sym (ap (λ (x : Refusal). x.no) e)))
  from_refused i (suc n) r m f e =
      by_cases (eqb (arrival_tests pl xs i) 0)
      (λ h. further i n r m (eqb-true _ 0 h) (from_refused (i + 1) n r m f (rw h at e)))
      (λ h.
      let g = rw (h, h) at e in
      let z : i + 0 ≡ i = omega arith in
      record {
        j = 0;
        there = omega arith;
        named = omega (arith, ap (λ (x : Refusal). x.named) g);
        gives = rw z (ap (λ (x : Refusal). x.no) g);
        before = λ l k. absurd (omega arith);
      })

  from_first : (i n r j : ℕ) → (r ≡ 0 → ⊥) → j < n → arrival_tests pl xs (i + j) ≡ r → ((l : ℕ) → l < j → arrival_tests pl xs (i + l) ≡ 0)
      → refusal_from pl xs i n ≡ refusal r (i + j + 1)
  unfolding refusal_from
  from_first i zero r j f h g b = absurd (omega arith)
  from_first i (suc n) r zero f h g b =
      let z : i + 0 ≡ i = omega arith in
      let e : arrival_tests pl xs i ≡ r = rw z at g in
      rw (e, ne_eqb r 0 f, ne_eqb r 0 f, z) refl
  from_first i (suc n) r (suc j) f h g b =
      let z : i + 0 ≡ i = omega arith in
      let e : arrival_tests pl xs i ≡ 0 = rw z at (b 0 (omega arith)) in
      let y : i + suc j ≡ i + 1 + j = omega arith in
      rw (e, y) (from_first (i + 1) n r j f (omega arith) (rw y at g)
      (λ l k. let w : i + suc l ≡ i + 1 + l = omega arith in rw w at (b (suc l) (omega arith))))

  -- of the first n
  pub refused_exactly : (n r k : ℕ) → (r ≡ 0 → ⊥) → (arrivals_refusal pl xs n ≡ refusal r (k + 1)) ↔ First pl xs n r k
  unfolding arrivals_refusal
  refused_exactly n r k f = (to, back)
    where
      zero_more : (j : ℕ) → 0 + j ≡ j
      zero_more j = omega arith

      to : refusal_from pl xs 0 n ≡ refusal r (k + 1) → First pl xs n r k
      to e =
          let g = from_refused 0 n r (k + 1) f e in
          let z : g.j ≡ k = omega (arith, g.named) in
          record {
            there = omega (arith, g.there);
            gives = ap (arrival_tests pl xs) (sym (zero_more g.j ∙ z)) ∙ g.gives;
            before = λ l h. ap (arrival_tests pl xs) (sym (zero_more l)) ∙ g.before l (omega arith);
          }

      back : First pl xs n r k → refusal_from pl xs 0 n ≡ refusal r (k + 1)
      back g =
          from_first 0 n r k f g.there (ap (arrival_tests pl xs) (zero_more k) ∙ g.gives)
          (λ l h. ap (arrival_tests pl xs) (zero_more l) ∙ g.before l h)
          ∙ ap (λ (m : ℕ). refusal r (m + 1)) (zero_more k)
