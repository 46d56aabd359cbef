-- A number that every period divides is their common period exactly if its quotients by them have no common divisor above 1.
use Prim.Native.Nat.{ℕ, zero, suc, ◌*◌, ◌/◌, ◌<◌, ◌∣◌}
use mathlib.Core.Path.{◌≡◌, sym, ap, ◌∙◌}
use mathlib.Core.Logic.{◌↔◌}
use mathlib.Core.List.{List, [], ◌∷◌, map}
use native.Mathlib.Nat.{one-mul, mul-one, dvd_trans, dvd-zero, dvd-mul_right, dvd_of_mul-dvd-mul_left, dvd_of_mul-dvd-mul_right, mul-dvd-mul_left, pos_of_dvd_of_pos, eq-one_of_dvd-one, div-mul_cancel, mul-div_cancel', mul-div_assoc}
use native.Mathlib.Omega.{arith}
use lib.ListN.{length, get_or}
use Rattle.arith.specs.Divisor.{gcd}
use Rattle.arith.specs.Period.{common}
use Rattle.arith.proofs.Euclid.{gcd_left, gcd_right, gcd_greatest}
use Rattle.arith.proofs.Common.{Each, common_each, common_least}

-- the greatest common divisor of a list, 0 of none
abbrev pub gcd_all : List ℕ → ℕ
gcd_all [] = 0
gcd_all (x ∷ xs) = gcd (gcd_all xs) x

-- how often each period goes into l
abbrev pub cofactors : ℕ → List ℕ → List ℕ
cofactors l ts = map (λ (t : ℕ). l / t) ts

-- it divides each quotient
all_divides : (l : ℕ) (ts : List ℕ) → Each (λ t. gcd_all (cofactors l ts) ∣ l / t) ts
all_divides l [] i h = absurd (omega arith)
all_divides l (t ∷ ts) zero h = gcd_right (gcd_all (cofactors l ts)) (l / t)
all_divides l (t ∷ ts) (suc i) h =
    dvd_trans (gcd_all (cofactors l (t ∷ ts))) (gcd_left (gcd_all (cofactors l ts)) (l / t)) (all_divides l ts i (omega arith))

-- every number that divides each quotient divides it
all_greatest : (l : ℕ) (ts : List ℕ) (d : ℕ) → Each (λ t. d ∣ l / t) ts → d ∣ gcd_all (cofactors l ts)
all_greatest l [] d e = dvd-zero d
all_greatest l (t ∷ ts) d e =
    gcd_greatest (gcd_all (cofactors l ts)) (l / t) d (all_greatest l ts d (λ i h. e (suc i) (omega arith))) (e 0 (omega arith))

module _ (l : ℕ) (ts : List ℕ) where
  -- every period divides l, and the quotients have no common divisor: l is the common period
  pub cofactor_common : Each (λ t. t ∣ l) ts → gcd_all (cofactors l ts) ≡ 1 → l ≡ common ts
  cofactor_common e g =
      let m : l / common ts * common ts ≡ l = div-mul_cancel (common ts) (common_least ts l e) in
      let one : l / common ts ∣ 1 = rw g at (all_greatest l ts (l / common ts) (λ i h. quotient (l / common ts) (get_or ts i 0) m (common_each ts i h))) in
      sym m ∙ ap (λ (d : ℕ). d * common ts) (eq-one_of_dvd-one one) ∙ one-mul (common ts)
    where
      -- d divides the quotient of its multiple l
      quotient : (d t : ℕ) → d * common ts ≡ l → t ∣ common ts → d ∣ l / t
      quotient d t m k = rw (← m, mul-div_assoc t d k) (dvd-mul_right d (common ts / t))

  -- l is the common period: the quotients have no common divisor
  pub common_cofactor : 0 < l → 0 < length ts → l ≡ common ts → gcd_all (cofactors l ts) ≡ 1
  common_cofactor h k e = go (gcd_all (cofactors l ts)) (all_divides l ts)
    where
      divides : (i : ℕ) → i < length ts → get_or ts i 0 ∣ l
      divides i b = rw e (common_each ts i b)

      go : (g : ℕ) → Each (λ t. g ∣ l / t) ts → g ≡ 1
      go g d =
          let into : g ∣ l = dvd_trans g (d 0 k) (rw (div-mul_cancel (get_or ts 0 0) (divides 0 k)) at (dvd-mul_right (l / get_or ts 0 0) (get_or ts 0 0))) in
          let pos : 0 < g = pos_of_dvd_of_pos into h in
          let m : l / g * g ≡ l = div-mul_cancel g into in
          let each : Each (λ t. t ∣ l / g) ts =
          λ i b. dvd_of_mul-dvd-mul_right {k = g} (get_or ts i 0) pos
          (rw (m, ← (mul-div_cancel' (get_or ts i 0) (divides i b))) (mul-dvd-mul_left g (get_or ts i 0) (d i b))) in
          let back : l / g * g ∣ l / g * 1 = rw (m, mul-one (l / g)) (rw (← e) at (common_least ts (l / g) each)) in
          eq-one_of_dvd-one (dvd_of_mul-dvd-mul_left {k = l / g} g (pos_of_dvd_of_pos (rw m at (dvd-mul_right (l / g) g)) h) back)

  -- both: every period divides l and the quotients have no common divisor, exactly if l is the common period
  pub cofactor_exact : 0 < l → 0 < length ts → (Each (λ t. t ∣ l) ts × (gcd_all (cofactors l ts) ≡ 1)) ↔ (l ≡ common ts)
  cofactor_exact h k = ((λ b. cofactor_common b.0 b.1), (λ e. ((λ i b. rw e (common_each ts i b)), common_cofactor h k e)))
