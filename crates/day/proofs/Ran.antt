-- The ticks that runs have had, after some more.
use Prim.Native.Nat.{ℕ, zero, suc, ◌+◌, ◌-◌, ◌*◌, ◌<◌}
use mathlib.Core.Path.{◌≡◌, refl, sym, ◌∙◌}
use mathlib.Core.Bool.{true, false, cond}
use mathlib.Core.List.{List}
use native.Mathlib.Decide.{ℕ_discrete}
use native.Mathlib.Omega.{arith}
use native.Mathlib.Nat.{mul-add, add-mul}
use lib.Dec.{eqb}
use lib.ListN.{length, get_or, set}
use lib.Seq.{get_or-set_same, get_or-set_other, ext_get_or}
use borrow.Author.Tests.{eqb-true, eqb-false, eq-eqb, ne_eqb}
use Rattle.lists.specs.Lists.{bit}
use Rattle.lists.proofs.Tests.{by_cases}
use Rattle.goings.specs.declared.Going.{Going}
use Rattle.goings.specs.Going.{no_going, ran_by}
use Rattle.goings.proofs.Ran.{ran_long}

module _ (gs : List Going) where
  -- how many of the first n cores have a run of task i, from 0
  abbrev pub having : ℕ → ℕ → ℕ
  having i zero = 0
  having i (suc n) = having i n + bit (eqb (get_or gs n no_going).task (suc i))

  module _ (m : ℕ) (hs : List ℕ) where
    -- m more for each of them
    pub ran_is : (n i : ℕ) → i < length hs → get_or (ran_by gs m hs n) i 0 ≡ get_or hs i 0 + m * having i n
    unfolding ran_by
    ran_is zero i h = omega arith
    ran_is (suc n) i h = go (get_or gs n no_going).task (ran_is n i h)
      where
        rs : List ℕ
        rs = ran_by gs m hs n

        go : (j : ℕ) → get_or rs i 0 ≡ get_or hs i 0 + m * having i n
            → get_or (cond (eqb j 0) rs (set rs (j - 1) (get_or rs (j - 1) 0 + m))) i 0 ≡ get_or hs i 0 + m * (having i n + bit (eqb j (suc i)))
        go j r = by_cases (eqb j 0) (none j r) (λ z. some j r z (ℕ_discrete i (j - 1)))
          where
            none : (j : ℕ) → get_or rs i 0 ≡ get_or hs i 0 + m * having i n → eqb j 0 ≡ true
                → get_or (cond (eqb j 0) rs (set rs (j - 1) (get_or rs (j - 1) 0 + m))) i 0 ≡ get_or hs i 0 + m * (having i n + bit (eqb j (suc i)))
            none j r z =
                let e = eqb-true j 0 z in
                rw (z, ne_eqb j (suc i) (λ q. omega (arith, q, e))) (r ∙ omega (arith, mul-add m (having i n) 0))

            some : (j : ℕ) → get_or rs i 0 ≡ get_or hs i 0 + m * having i n → eqb j 0 ≡ false → Dec (i ≡ j - 1)
                → get_or (cond (eqb j 0) rs (set rs (j - 1) (get_or rs (j - 1) 0 + m))) i 0 ≡ get_or hs i 0 + m * (having i n + bit (eqb j (suc i)))
            some j r z (yes e) =
                let o = eqb-false j 0 z in
                rw (z, eq-eqb j (suc i) (omega (arith, e, o)), ← e)
                (get_or-set_same rs i (get_or rs i 0 + m) 0 (omega (arith, h, ran_long gs m hs n)) ∙ omega (arith, r, mul-add m (having i n) 1))
            some j r z (no e) =
                let o = eqb-false j 0 z in
                rw (z, ne_eqb j (suc i) (λ q. e (omega (arith, q))))
                (get_or-set_other rs (j - 1) i (get_or rs (j - 1) 0 + m) 0 e ∙ omega (arith, r, mul-add m (having i n) 0))

  -- a task that has one of them alone
  pub having_none : (i n : ℕ) → ((q : ℕ) → q < n → (get_or gs q no_going).task ≡ suc i → ⊥) → having i n ≡ 0
  having_none i zero h = refl
  having_none i (suc n) h =
      rw (having_none i n (λ q l. h q (omega (arith, l))), ne_eqb (get_or gs n no_going).task (suc i) (h n (omega arith))) refl

  pub having_one : (i n p : ℕ) → p < n → (get_or gs p no_going).task ≡ suc i → ((q : ℕ) → q < n → (get_or gs q no_going).task ≡ suc i → q ≡ p) → having i n ≡ 1
  having_one i zero p l e h = absurd (omega arith)
  having_one i (suc n) p l e h = go (λ b. having_one i n p b e (λ q k. h q (omega (arith, k)))) (ℕ_discrete p n)
    where
      go : (p < n → having i n ≡ 1) → Dec (p ≡ n) → having i n + bit (eqb (get_or gs n no_going).task (suc i)) ≡ 1
      go below (yes q) =
          let f : (get_or gs n no_going).task ≡ suc i = rw q at e in
          rw (having_none i n (λ j k z. omega (arith, k, q, h j (omega (arith, k)) z)), eq-eqb (get_or gs n no_going).task (suc i) f) refl
      go below (no q) =
          rw (below (omega (arith, l, q)), ne_eqb (get_or gs n no_going).task (suc i) (λ z. q (sym (h n (omega arith) z)))) refl

-- some ticks, and then more
pub ran_more : (gs : List Going) (k m n : ℕ) (hs : List ℕ) → ran_by gs m (ran_by gs k hs n) n ≡ ran_by gs (k + m) hs n
ran_more gs k m n hs =
    ext_get_or 0 (ran_by gs m (ran_by gs k hs n) n) (ran_by gs (k + m) hs n)
    (ran_long gs m (ran_by gs k hs n) n ∙ ran_long gs k hs n ∙ sym (ran_long gs (k + m) hs n))
    (λ i l.
    let h : i < length hs = omega (arith, l, ran_long gs m (ran_by gs k hs n) n, ran_long gs k hs n) in
    ran_is gs m (ran_by gs k hs n) n i (omega (arith, h, ran_long gs k hs n))
    ∙ omega (arith, ran_is gs k hs n i h, ran_is gs (k + m) hs n i h, add-mul k m (having gs i n)))

-- none
pub ran_none : (gs : List Going) (n : ℕ) (hs : List ℕ) → ran_by gs 0 hs n ≡ hs
ran_none gs n hs =
    ext_get_or 0 (ran_by gs 0 hs n) hs (ran_long gs 0 hs n)
    (λ i l. let h : i < length hs = omega (arith, l, ran_long gs 0 hs n) in omega (arith, ran_is gs 0 hs n i h))
