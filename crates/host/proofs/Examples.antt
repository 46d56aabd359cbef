-- Tables of bytes read as numbers.
use mathlib.Core.Path.{◌≡◌, refl}
use mathlib.Core.List.{[], ◌∷◌}
use Rattle.host.specs.Host.{table_in}

-- two tasks, 1 of 1,000,000 and 258 of 4,294,967,295: cost then period, least byte first
pub two_tasks : table_in (1 ∷ 0 ∷ 0 ∷ 0 ∷ 64 ∷ 66 ∷ 15 ∷ 0 ∷ 2 ∷ 1 ∷ 0 ∷ 0 ∷ 255 ∷ 255 ∷ 255 ∷ 255 ∷ []) ≡ 1 ∷ 1000000 ∷ 258 ∷ 4294967295 ∷ []
unfolding table_in
two_tasks = refl

-- the second one cut by a byte
pub cut : table_in (1 ∷ 0 ∷ 0 ∷ 0 ∷ 64 ∷ 66 ∷ 15 ∷ 0 ∷ 2 ∷ 1 ∷ 0 ∷ 0 ∷ 255 ∷ 255 ∷ 255 ∷ []) ≡ []
unfolding table_in
cut = refl
