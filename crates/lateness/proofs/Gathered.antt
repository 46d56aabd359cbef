-- The movers of each core, gathered from the last line to the first.
use Prim.Native.Nat.{ℕ, zero, suc, ◌+◌, ◌≤◌, ◌<◌}
use mathlib.Core.Path.{◌≡◌, refl, sym, ap, ◌∙◌}
use mathlib.Core.Bool.{Bool, true, false, cond}
use mathlib.Core.List.{List}
use native.Mathlib.Numerals.{add-one}
use native.Mathlib.Omega.{arith}
use lib.ListN.{length, get_or, drop, replicate, drop_of_length-le, get_or-replicate}
use lib.Seq.{drop-cons}
use borrow.Author.Tests.{le-ltb}
use Rattle.units.specs.Limits.{cores_limit}
use Rattle.lists.specs.Lists.{parts}
use Rattle.planning.specs.declared.Line.{Line}
use Rattle.planning.specs.Plan.{no_line, empty_line, row_of}
use Rattle.task_shares.specs.Movers.{upper, lower}
use Rattle.units.specs.Units.{share, duration}
use Rattle.lateness.specs.declared.movers.Mover.{Mover}
use Rattle.lateness.specs.declared.movers.Movers.{Movers}
use Rattle.lateness.specs.Lateness.{upper_on, lower_on}
use Rattle.lateness.specs.Inner.{mover_on, no_mover, InFront, MoversOf}
use Rattle.lateness.proofs.Pair.{empty_share}

-- the empty line as a mover
abbrev pub nobody : Mover
nobody = record { share = share 0; cost = duration 0; period = duration 0; first = cores_limit }

empty_mover : (p : ℕ) → nobody ≡ mover_on p empty_line
unfolding empty_line
empty_mover p = ap (λ (s : ℕ). record { share = share s; cost = duration 0; period = duration 0; first = cores_limit }) (sym (empty_share p))

-- no core has a mover
abbrev nowhere : Movers
nowhere = record { upper = replicate cores_limit nobody; lower = replicate cores_limit nobody }

-- no line, no mover
gathered_none : (lns : List Line) (i : ℕ) → length lns ≤ i → MoversOf (drop i lns) nowhere
gathered_none lns i h = rw (drop_of_length-le lns h) (record {
  uppers = λ p k. get_or-replicate cores_limit p nobody no_mover k ∙ empty_mover p;
  lowers = λ p k. get_or-replicate cores_limit p nobody no_mover k ∙ empty_mover p;
})

-- the line in front, or the first of the others
chosen : (b : Bool) (p : ℕ) (ln rest : Line) {m : Mover} → m ≡ mover_on p rest → cond b (mover_on p ln) m ≡ mover_on p (cond b ln rest)
chosen true p ln rest e = refl
chosen false p ln rest e = e

-- a line more
pub gathered_next : (lns : List Line) (i : ℕ) (ms new : Movers) → i < length lns → MoversOf (drop (i + 1) lns) ms →
    let ln = get_or lns i no_line in
    InFront (λ p. upper p (row_of ln)) ln ms.upper new.upper → InFront (λ p. lower p (row_of ln)) ln ms.lower new.lower
    → MoversOf (drop i lns) new
gathered_next lns i ms new h k u w = rw (drop-cons lns i no_line h, ← (add-one i)) (record {
  uppers = λ p l. u p l ∙ chosen (upper p (row_of (get_or lns i no_line))) p (get_or lns i no_line) (upper_on p (drop (i + 1) lns)) (k.uppers p l);
  lowers = λ p l. w p l ∙ chosen (lower p (row_of (get_or lns i no_line))) p (get_or lns i no_line) (lower_on p (drop (i + 1) lns)) (k.lowers p l);
})

-- a line that does not move changes nothing
pub unmoved_upper : (ms : List Mover) (ln : Line) → parts (row_of ln) ≤ 1 → InFront (λ p. upper p (row_of ln)) ln ms ms
unmoved_upper ms ln h p l = rw (le-ltb 1 (parts (row_of ln)) h) refl

pub unmoved_lower : (ms : List Mover) (ln : Line) → parts (row_of ln) ≤ 1 → InFront (λ p. lower p (row_of ln)) ln ms ms
unmoved_lower ms ln h p l = rw (le-ltb 1 (parts (row_of ln)) h) refl

-- empty lines neither: n of them from i to the end
pub gathered_past : (lns : List Line) (n i : ℕ) → i + n ≡ length lns → ((q : ℕ) → i ≤ q → q < length lns → get_or lns q no_line ≡ empty_line)
    → MoversOf (drop i lns) (record { upper = replicate cores_limit nobody; lower = replicate cores_limit nobody })
unfolding empty_line
gathered_past lns zero i e k = gathered_none lns i (omega arith)
gathered_past lns (suc n) i e k =
    let ln : Line = get_or lns i no_line in
    let few : parts (row_of ln) ≤ 1 = rw (k i (omega arith) (omega arith)) (omega arith) in
    gathered_next lns i nowhere nowhere (omega arith) (gathered_past lns n (i + 1) (omega arith) (λ q h l. k q (omega arith) l))
    (unmoved_upper nowhere.upper ln few) (unmoved_lower nowhere.lower ln few)
