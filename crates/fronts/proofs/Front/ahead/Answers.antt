-- `fronts::Front::ahead` meets its contract.
use Prim.Native.Nat.{ℕ, ◌<◌, min}
use mathlib.Core.Path.{◌≡◌, ap, ◌∙◌}
use native.Mathlib.Omega.{arith}
use lib.Dec.{ltb}
use borrow.Author.Tests.{lt-leb, ltb-true, ltb-false, ne_eqb}
use Rattle.lists.proofs.Tests.{by_cases}
use Rattle.units.specs.Units.{ticks}
use Rattle.fronts.specs.declared.Front.{Front}
use Rattle.fronts.specs.Front.{next_up, lesser, ahead_of}
use Rattle.fronts.proofs.Front.ahead.Goals as goal

-- the smaller of two numbers
smaller : (a b : ℕ) → min a b ≡ lesser a b
smaller a b = by_cases (ltb a b) (λ e. rw e (omega (arith, ltb-true a b e))) (λ e. rw e (omega (arith, ltb-false a b e)))

-- where a release time lies ahead: the next one, or the given time before it
sooner : (f : Front) (t v : ℕ) → t < f.last.0 → (f.period ≡ 0 → ⊥) → {x : ℕ} → x ≡ min (next_up f.last.0 f.period t) v → ticks x ≡ ticks (ahead_of f t v)
unfolding ahead_of
sooner f t v l z q = rw (lt-leb f.last.0 t l, ne_eqb f.period 0 z) (ap ticks (q ∙ smaller (next_up f.last.0 f.period t) v))

pub returns : goal.returns
returns c = let s = c.args in sooner s.self s.time.0 s.until.0 c.if-last-time.false c.if-self-eq0.false (omega arith)
