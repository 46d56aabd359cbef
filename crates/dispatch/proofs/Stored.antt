-- An entry after a store: the one that was stored, or the one that stood there.
use Prim.Native.Nat.{ℕ, ◌<◌}
use mathlib.Core.Path.{◌≡◌, sym, subst}
use mathlib.Core.List.{List}
use native.Mathlib.Decide.{ℕ_discrete}
use lib.ListN.{length, get_or, set}
use lib.Seq.{get_or-set_same, get_or-set_other}

-- what holds of both holds of every entry
pub stored : {A : Type 0} (l : List A) (i : ℕ) (v d : A) → i < length l → (P : ℕ → A → Type 0)
    → P i v → ((j : ℕ) → (j ≡ i → ⊥) → P j (get_or l j d)) → (j : ℕ) → P j (get_or (set l i v) j d)
stored l i v d h P here there j = go (ℕ_discrete j i)
  where
    go : Dec (j ≡ i) → P j (get_or (set l i v) j d)
    go (yes e) = subst (λ (k : ℕ). P k (get_or (set l i v) k d)) (sym e) (subst (P i) (sym (get_or-set_same l i v d h)) here)
    go (no n) = subst (P j) (sym (get_or-set_other l i j v d n)) (there j n)
