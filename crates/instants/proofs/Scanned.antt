-- What a scan sees: of each core the choice that a look at its tasks alone gives.
use Prim.Native.Nat.{ℕ, zero, suc, ◌-◌, ◌≤◌, ◌<◌}
use mathlib.Core.Path.{◌≡◌, ap, ◌∙◌}
use mathlib.Core.Bool.{true, ◌&&◌, ◌||◌}
use mathlib.Core.List.{List, []}
use native.Mathlib.Omega.{arith}
use lib.Dec.{ltb, leb, eqb}
use lib.ListN.{length, get_or, length-set, length-replicate, get_or-eq_default}
use lib.Seq.{get_or-set_same, get_or-set_other}
use borrow.Author.Tests.{ltb-true, ltb-false, leb-true, eqb-true, eqb-false}
use Rattle.lists.proofs.Tests.{by_cases, and_left, and_right}
use Rattle.lists.proofs.Filled.{default_after}
use Rattle.units.specs.Limits.{cores_limit}
use Rattle.fronts.specs.declared.Front.{Front}
use Rattle.fronts.specs.Front.{no_front, sees}
use Rattle.instants.specs.declared.Seen.{Seen}
use Rattle.instants.specs.Seen.{idle, better, seen_of, seen_at}

-- a run that is seen is on a core
pub sees_core : (f : Front) (t : ℕ) → sees f t ≡ true → (0 < f.core) × (f.core ≤ cores_limit)
sees_core f t e =
    let on = and_left (ltb 0 f.core && leb f.core cores_limit) (leb f.release.0 t) e in
    (ltb-true 0 f.core (and_left _ _ on), leb-true f.core cores_limit (and_right (ltb 0 f.core) _ on))

module _ (fs : List Front) (hs : List ℕ) (t : ℕ) where
  -- what task n, from 0, makes of a choice
  abbrev better_at : ℕ → Seen → Seen
  better_at n b = better b (suc n) (get_or fs n no_front) (get_or hs n 0)

  -- on its core
  abbrev placed : ℕ → Seen
  placed n = better_at n (get_or (seen_of fs hs t n) ((get_or fs n no_front).core - 1) idle)

  -- a choice for each core
  pub seen_long : (n : ℕ) → length (seen_of fs hs t n) ≡ cores_limit
  unfolding seen_of
  seen_long zero = length-replicate cores_limit idle
  seen_long (suc n) =
      by_cases (sees (get_or fs n no_front) t)
      (λ e. rw e (length-set (seen_of fs hs t n) ((get_or fs n no_front).core - 1) (placed n) ∙ seen_long n))
      (λ e. rw e (seen_long n))

  -- it is the core's own
  pub seen_is : (n p : ℕ) → p < cores_limit → get_or (seen_of fs hs t n) p idle ≡ seen_at fs hs t p n
  unfolding seen_of seen_at
  seen_is zero p h = default_after idle [] cores_limit p
  seen_is (suc n) p h =
      let f = get_or fs n no_front in
      let ss : List Seen = seen_of fs hs t n in
      by_cases (sees f t)
      (λ e.
      let on = sees_core f t e in
      by_cases (eqb f.core (suc p))
      (λ k.
      let at : f.core - 1 ≡ p = omega (arith, eqb-true f.core (suc p) k) in
      rw (e, k, at) (get_or-set_same ss p (better_at n (get_or ss p idle)) idle (omega (arith, seen_long n)) ∙ ap (better_at n) (seen_is n p h)))
      (λ k.
      let other = eqb-false f.core (suc p) k in
      rw (e, k) (get_or-set_other ss (f.core - 1) p (placed n) idle (λ q. other (omega (arith, q, on))) ∙ seen_is n p h)))
      (λ e. rw e (seen_is n p h))

  -- and names one of the n tasks
  at_named : (n p : ℕ) → (seen_at fs hs t p n).task ≤ n
  unfolding seen_at
  at_named zero p = omega arith
  at_named (suc n) p =
      let f = get_or fs n no_front in
      let b : Seen = seen_at fs hs t p n in
      by_cases (sees f t && eqb f.core (suc p))
      (λ e. by_cases (eqb b.task 0 || ltb f.key b.key) (λ k. rw (e, k) (omega arith)) (λ k. rw (e, k) (omega (arith, at_named n p))))
      (λ e. rw e (omega (arith, at_named n p)))

  pub seen_named : (n p : ℕ) → (get_or (seen_of fs hs t n) p idle).task ≤ n
  seen_named n p =
      by_cases (ltb p cores_limit)
      (λ e. rw (seen_is n p (ltb-true p cores_limit e)) (at_named n p))
      (λ e. rw (get_or-eq_default (seen_of fs hs t n) idle {n = p} (omega (arith, seen_long n, ltb-false p cores_limit e))) (omega arith))
