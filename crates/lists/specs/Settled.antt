-- Document 01, "What each public answer must settle". A contract speaks of the arguments, the answer and what was lent, after the call.
use Rattle.std.specs.Prelude.{◌≡◌}

-- any two answers that a contract allows are equal
abbrev pub Settled : {K : Type 0} {A R E : K → Type 0} → ((κ : K) → A κ → R κ → E κ → Type 0) → Type 0
Settled {K} {A} {R} {E} allows = (κ : K) (a : A κ) (x y : R κ) (e f : E κ) → allows κ a x e → allows κ a y f → x ≡ y

-- and so are the numbers that it allows in what was lent to be changed
abbrev pub SettledLent : {K B : Type 0} {A R E : K → Type 0} → ((κ : K) → E κ → B) → ((κ : K) → A κ → R κ → E κ → Type 0) → Type 0
SettledLent {K} {B} {A} {R} {E} lent allows =
    (κ : K) (a : A κ) (x y : R κ) (e f : E κ) → allows κ a x e → allows κ a y f → (x ≡ y) × (lent κ e ≡ lent κ f)
