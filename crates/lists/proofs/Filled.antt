-- An array of n entries, filled in turn: those from a on and below b are done, the others are as they were.
use Prim.Native.Nat.{ℕ, zero, suc, ◌+◌, ◌-◌, ◌≤◌, ◌<◌}
use mathlib.Core.Path.{◌≡◌, refl, sym, ap, ◌∙◌}
use mathlib.Core.List.{List, [], ◌∷◌, ◌++◌}
use native.Mathlib.Omega.{arith}
use native.Mathlib.Numerals.{add-one}
use lib.Dec.{ltb, eqb}
use lib.ListN.{length, get_or, drop, set, replicate, length-set, length-replicate, length-append, length-drop, get_or-eq_default}
use lib.Seq.{drop-cons, get_or-set_same, get_or-set_other, ext_get_or}
use borrow.Author.Tests.{ltb-true, ltb-false, eqb-true, eqb-false}
use Rattle.lists.proofs.Tests.{by_cases}

pub record Stored {A : Type 0} (d : A) (n : ℕ) (f : ℕ → A) (old : List A) (a b : ℕ) (now : List A) : Type 0 where
  pub ordered : a ≤ b
  pub within : b ≤ n
  pub long : length now ≡ n
  pub done : (q : ℕ) → a ≤ q → q < b → get_or now q d ≡ f q
  pub below : (q : ℕ) → q < a → get_or now q d ≡ get_or old q d
  pub above : (q : ℕ) → b ≤ q → get_or now q d ≡ get_or old q d

-- what holds of a stored entry, and of all others as they are, holds of each
all_but : {A : Type 0} (d : A) (P : ℕ → A → Type 0) (xs : List A) (i : ℕ) (v : A) → i < length xs → P i v
    → ((q : ℕ) → (q ≡ i → ⊥) → P q (get_or xs q d)) → (q : ℕ) → P q (get_or (set xs i v) q d)
all_but d P xs i v h e k q =
    by_cases (eqb q i)
    (λ t. rw (eqb-true q i t, get_or-set_same xs i v d h) e)
    (λ t. rw (get_or-set_other xs i q v d (eqb-false q i t)) (k q (eqb-false q i t)))

module _ {A : Type 0} (d : A) (n : ℕ) (f : ℕ → A) (old : List A) where
  -- none is done
  pub stored_none : (a : ℕ) → a ≤ n → length old ≡ n → Stored d n f old a a old
  stored_none a h e = record {
    ordered = omega arith;
    within = h;
    long = e;
    done = λ q l m. absurd (omega arith);
    below = λ q l. refl;
    above = λ q l. refl;
  }

  -- those from a on are right as they were
  pub stored_from : (a : ℕ) → a ≤ n → length old ≡ n → ((q : ℕ) → a ≤ q → q < n → get_or old q d ≡ f q) → Stored d n f old a n old
  stored_from a h e k = record { ordered = h; within = omega arith; long = e; done = k; below = λ q l. refl; above = λ q l. refl }

  -- the next one is stored
  pub store_next : (a b : ℕ) (now : List A) (v : A) → Stored d n f old a b now → b < n → v ≡ f b → Stored d n f old a (b + 1) (set now b v)
  store_next a b now v k h e =
      let l : b < length now = omega (arith, k.long) in
      let o = k.ordered in
      record {
        ordered = omega arith;
        within = omega arith;
        long = length-set now b v ∙ k.long;
        done = all_but d (λ q x. a ≤ q → q < b + 1 → x ≡ f q) now b v l (λ s t. e) (λ q z s t. k.done q s (omega (arith, z)));
        below = all_but d (λ q x. q < a → x ≡ get_or old q d) now b v l (λ s. absurd (omega arith)) (λ q z s. k.below q s);
        above = all_but d (λ q x. b + 1 ≤ q → x ≡ get_or old q d) now b v l (λ s. absurd (omega arith)) (λ q z s. k.above q (omega arith));
      }

  -- the next one is right as it was
  pub store_skip : (a b : ℕ) (now : List A) → Stored d n f old a b now → b < n → get_or old b d ≡ f b → Stored d n f old a (b + 1) now
  store_skip a b now k h e =
      let o = k.ordered in
      record {
        ordered = omega arith;
        within = omega arith;
        long = k.long;
        done = λ q s t.
            by_cases (eqb q b)
            (λ z. rw (eqb-true q b z) (k.above b (omega arith) ∙ e))
            (λ z. k.done q s (omega (arith, eqb-false q b z)));
        below = k.below;
        above = λ q s. k.above q (omega arith);
      }

  -- the one before is stored
  pub store_before : (i b : ℕ) (now : List A) (v : A) → Stored d n f old (i + 1) b now → v ≡ f i → Stored d n f old i b (set now i v)
  store_before i b now v k e =
      let o = k.ordered in
      let w = k.within in
      let l : i < length now = omega (arith, k.long) in
      record {
        ordered = omega arith;
        within = w;
        long = length-set now i v ∙ k.long;
        done = all_but d (λ q x. i ≤ q → q < b → x ≡ f q) now i v l (λ s t. e) (λ q z s t. k.done q (omega (arith, z)) t);
        below = all_but d (λ q x. q < i → x ≡ get_or old q d) now i v l (λ s. absurd (omega arith)) (λ q z s. k.below q (omega arith));
        above = all_but d (λ q x. b ≤ q → x ≡ get_or old q d) now i v l (λ s. absurd (omega arith)) (λ q z s. k.above q s);
      }

-- from the front, over the default: what is still to come of the whole is todo
pub record Filled {A : Type 0} (d : A) (n : ℕ) (whole now todo : List A) (k : ℕ) : Type 0 where
  pub stored : Stored d n (λ q. get_or whole q d) (replicate n d) 0 k now
  pub left : drop k whole ≡ todo

module _ {A : Type 0} (d : A) where
  -- the default is no entry
  default_at : (m q : ℕ) → get_or (replicate m d) q d ≡ d
  default_at zero q = refl
  default_at (suc m) zero = refl
  default_at (suc m) (suc q) = default_at m q

  -- and none past the end
  pub default_after : (xs : List A) (m q : ℕ) → get_or (xs ++ replicate m d) q d ≡ get_or xs q d
  default_after [] m q = default_at m q
  default_after (x ∷ xs) m zero = refl
  default_after (x ∷ xs) m (suc q) = default_after xs m q

  module _ (n : ℕ) (whole : List A) where
    -- at first nothing stands
    pub empty : Filled d n whole (replicate n d) whole 0
    empty = record { stored = stored_none d n (λ q. get_or whole q d) (replicate n d) 0 (omega arith) (length-replicate n d); left = refl }

    module _ (now todo : List A) (k : ℕ) where
      -- one entry more
      pub next : (x : A) → Filled d n whole now (x ∷ todo) k → k < n → Filled d n whole (set now k x) todo (k + 1)
      next x f h =
          let same : get_or whole k d ∷ drop (suc k) whole ≡ x ∷ todo =
          sym (drop-cons whole k d (omega (arith, length-drop k whole, ap length f.left))) ∙ f.left in
          record {
            stored = store_next d n (λ q. get_or whole q d) (replicate n d) 0 k now x f.stored h (sym (ap (λ ys. get_or ys 0 d) same));
            left = rw (add-one k) (ap (drop 1) same);
          }

      -- at the end the whole stands, and the default after it
      pub full : Filled d n whole now todo k → todo ≡ [] → k ≤ n → now ≡ whole ++ replicate (n - length whole) d
      full f e h =
          let m : ℕ = n - length whole in
          let s = f.stored in
          let few : length whole ≤ k = omega (arith, length-drop k whole, ap length (f.left ∙ e)) in
          ext_get_or d now (whole ++ replicate m d)
          (omega (arith, s.long, length-append whole (replicate m d), length-replicate m d))
          (λ q l.
          by_cases (ltb q k)
          (λ t. s.done q (omega arith) (ltb-true q k t))
          (λ t. let past = ltb-false q k t in s.above q past ∙ default_at n q ∙ sym (get_or-eq_default whole d {n = q} (omega arith)))
          ∙ sym (default_after whole m q))
