-- The reaches of the first p cores, worked out in turn.
use Prim.Native.Nat.{ℕ, zero, suc, ◌+◌, ◌-◌, ◌*◌, ◌≤◌, ◌<◌}
use mathlib.Core.Path.{◌≡◌, refl, sym, ap, ap₂, ◌∙◌}
use mathlib.Core.List.{List, [], ◌∷◌, ◌++◌, append_assoc, append-nil}
use native.Mathlib.Omega.{arith}
use native.Mathlib.Numerals.{add-one}
use lib.ListN.{length, set, length-append, length-replicate}
use lib.Seq.{set_at}
use Rattle.units.specs.Limits.{cores_limit, period_limit}
use Rattle.lists.specs.Lists.{zeros, most}
use Rattle.lists.proofs.Lists.{zeros_most}
use Rattle.lists.proofs.Filled.{default_after}
use Rattle.task_shares.specs.Movers.{first_core}
use Rattle.planning.specs.declared.Line.{Line}
use Rattle.planning.specs.declared.Plan.{Plan}
use Rattle.planning.specs.Plan.{row_of}
use Rattle.planning.specs.Kept.{PlanKept}
use Rattle.lateness.specs.Lateness.{upper_on, lower_on, reach_on, reaches}
use Rattle.lateness.proofs.Range.{most_append, reaches_le}

module _ (l : ℕ) (lns : List Line) where
  -- one for each core
  pub reaches_length : (p : ℕ) → length (reaches l lns p) ≡ p
  unfolding reaches
  reaches_length zero = refl
  reaches_length (suc p) =
      omega (arith, length-append (reaches l lns p) (reach_on l (reaches l lns p) p (upper_on p lns) (lower_on p lns) ∷ []), reaches_length p)

  -- those of the first p cores, 0 for the others
  abbrev pub reached : ℕ → List ℕ
  reached p = reaches l lns p ++ zeros (cores_limit - p)

  -- one for each of all cores
  pub reached_long : (p : ℕ) → p ≤ cores_limit → (rs : List ℕ) → rs ≡ reached p → length rs ≡ cores_limit
  reached_long p h rs e =
      rw (e, length-append (reaches l lns p) (zeros (cores_limit - p)), length-replicate {A = ℕ} (cores_limit - p) 0) (omega (arith, reaches_length p))

  -- none is known at first
  pub reached_none : zeros cores_limit ≡ reached 0
  unfolding reaches
  reached_none = refl

  -- a mover's reach asks for those alone
  reached_reach : (p : ℕ) (h ln : Line) → reach_on l (reached p) p h ln ≡ reach_on l (reaches l lns p) p h ln
  unfolding reach_on
  reached_reach p h ln = rw (default_after 0 (reaches l lns p) (cores_limit - p) (first_core (row_of h)))

  -- one core more
  pub reached_next : (p : ℕ) → p < cores_limit → (rs : List ℕ) (v : ℕ) → rs ≡ reached p → v ≡ reach_on l rs p (upper_on p lns) (lower_on p lns)
      → set rs p v ≡ reached (p + 1)
  unfolding reaches
  reached_next p h rs v a b =
      let known : List ℕ = reaches l lns p in
      let k : ℕ = cores_limit - (p + 1) in
      let e : cores_limit - p ≡ suc k = omega arith in
      let f : v ≡ reach_on l known p (upper_on p lns) (lower_on p lns) =
      b ∙ ap (λ (xs : List ℕ). reach_on l xs p (upper_on p lns) (lower_on p lns)) a ∙ reached_reach p (upper_on p lns) (lower_on p lns) in
      ap₂ (λ (xs : List ℕ) (x : ℕ). set xs p x) (a ∙ ap (λ (n : ℕ). known ++ zeros n) e) f
      ∙ set_at known 0 (zeros k) (reach_on l known p (upper_on p lns) (lower_on p lns)) p (reaches_length p)
      ∙ sym (append_assoc known (reach_on l known p (upper_on p lns) (lower_on p lns) ∷ []) (zeros k))
      ∙ ap (λ (n : ℕ). reaches l lns n ++ zeros k) (sym (add-one p))

  -- all are known at last
  pub reached_all : (p : ℕ) → p ≡ cores_limit → reached p ≡ reaches l lns cores_limit
  reached_all p e = rw e (append-nil (reaches l lns cores_limit))

-- they are small
pub reached_le : (pl : Plan) → PlanKept pl → (p : ℕ) → most (reached pl.common pl.lines p) ≤ 7 * period_limit * p
reached_le pl k p =
    let rs : List ℕ = reaches pl.common pl.lines p in
    omega (arith, most_append rs (zeros (cores_limit - p)), zeros_most (cores_limit - p), reaches_le pl k p)
