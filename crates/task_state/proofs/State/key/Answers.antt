-- `task_state::State::key` meets its contract: the task's standing on the core decides.
use Prim.Native.Nat.{ℕ, ◌+◌, ◌-◌}
use mathlib.Core.Path.{◌≡◌, sym, ap, ◌∙◌}
use mathlib.Core.Bool.{cond}
use mathlib.Core.Logic.{inl, inr}
use lib.Dec.{ltb}
use Rattle.task_shares.specs.Standing.{standing_on}
use Rattle.task_shares.proofs.Stands.{is_upper, is_lower, upper_stands, lower_stands, found}
use Rattle.task_shares.specs.declared.standing.Standing.{Standing}
use Rattle.task_shares.specs.declared.standing.Standing.TheVariants.{Absent, Fixed, Lower, Upper}
use Rattle.planning.specs.Plan.{row_of}
use Rattle.task_state.specs.Key.{deadline_of, key_of}
use Rattle.task_state.proofs.State.key.Goals.{After-stands}
use Rattle.task_state.proofs.State.key.Goals as goal

-- the key by the standing that is found
keyed : (c : After-stands) (s : Standing) → c.stands.result ≡ s →
    let a = c.args in
    cond (is_upper s) 0 (cond (is_lower s) 1 (2 + deadline_of a.self)) ≡ key_of a.line a.self a.core
keyed c s e =
    let a = c.args in
    let p : ℕ = a.core - 1 in
    let m = c.moves_by-moves.ensures ∙ ap (ltb 1) c.parts_of.ensures in
    let k : s ≡ standing_on p (row_of a.line) =
    sym e ∙ c.stands.ensures ∙ found a.line.shares p c.first_core-first.result c.moves_by-moves.result m c.first_core-first.ensures in
    rw (upper_stands p (row_of a.line), lower_stands p (row_of a.line), k)

pub returns-in-Upper : goal.returns-in-Upper
returns-in-Upper c = keyed (goal.at.returns-in-Upper c).After-stands Upper c.in-Upper.is

pub returns-in-Lower : goal.returns-in-Lower
returns-in-Lower c = keyed (goal.at.returns-in-Lower c).After-stands Lower c.in-Lower.is

pub returns-in-Fixed : goal.returns-in-Fixed
returns-in-Fixed c =
    let keyed_as = keyed (goal.at.returns-in-Fixed c).After-stands in
    elim c.in-Fixed.is [ inl e ↦ keyed_as Fixed e | inr e ↦ keyed_as Absent e ]
