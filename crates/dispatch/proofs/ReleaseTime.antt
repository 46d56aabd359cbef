-- A release's time in the words of document 02, R-2: held until T after the last one where it is early, its call's time where it is not.
use Prim.Native.Nat.{ℕ, ◌-◌}
use mathlib.Core.Path.{◌≡◌, sym, ◌∙◌}
use mathlib.Core.Logic.{◌⊎◌, inl, inr, ⊎_elim}
use mathlib.Core.Bool.{Bool, ◌&&◌, false≢true}
use lib.Dec.{ltb, eqb}
use borrow.Author.Tests.{ltb-true, lt-ltb, eqb-true, eq-eqb}
use Rattle.lists.proofs.Tests.{by_cases, and_left, and_right, and_true}
use Rattle.units.specs.declared.ticks.Ticks.{Ticks}
use Rattle.task_state.specs.Due.{release_at}
use Rattle.dispatch.specs.declared.Record.{Record}
use Rattle.dispatch.specs.Record.{line_at, state_at}
use Rattle.dispatch.specs.Given.{task_state, next_release, Early}

module _ (r : Record) (i : ℕ) (t : Ticks) where
  -- the release time
  abbrev at : ℕ
  at = release_at (line_at r (i - 1)) (state_at r (i - 1)) t.0

  -- the two tests of the definition
  abbrev had : Bool
  had = eqb (task_state r i).had 1

  abbrev soon : Bool
  soon = ltb t.0 (next_release r i)

  -- an early release
  pub held_until : Early r i t → at ≡ next_release r i
  held_until p = rw (and_true had soon (eq-eqb (task_state r i).had 1 p.0) (lt-ltb t.0 (next_release r i) p.1))

  -- each release: early and held, or neither
  pub released : (Early r i t × (at ≡ next_release r i)) ⊎ ((Early r i t → ⊥) × (at ≡ t.0))
  released =
      by_cases (had && soon)
      (λ e.
      let p : Early r i t = (eqb-true (task_state r i).had 1 (and_left had soon e), ltb-true t.0 (next_release r i) (and_right had soon e)) in
      inl (p, held_until p))
      (λ e. inr (λ p. false≢true (sym e ∙ and_true had soon (eq-eqb (task_state r i).had 1 p.0) (lt-ltb t.0 (next_release r i) p.1)), rw e))

  -- one that is not early
  pub at_once : (Early r i t → ⊥) → at ≡ t.0
  at_once n = ⊎_elim (λ p. absurd (n p.0)) (λ p. p.1) released
