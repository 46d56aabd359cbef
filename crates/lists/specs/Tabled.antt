-- A list by what stands at each place.
use Rattle.std.specs.Prelude.{ℕ, zero, suc, List, [], ◌∷◌}

-- of n places
abbrev pub tabled : {A : Type 0} → (ℕ → A) → ℕ → List A
tabled f zero = []
tabled f (suc n) = f 0 ∷ tabled (λ k. f (suc k)) n
