-- What the contract allows in the lent list is settled, whatever the numbers' type.
use mathlib.Core.Path.{refl, sym, ◌∙◌}
use denote.RattleType.{RattleType}
use denote.Param.Laws.{Laws, IsCopy}
use mir.Syntax.{Dict}
use borrow.Fn.Kinds.{Out}
use Rattle.std.specs.declared.clone.Clone.{Ghosts}
use Rattle.lists.specs.Settled.{SettledLent}
use Rattle.lent_numbers.proofs.store.Kinds.{ps, r}
use Rattle.lent_numbers.proofs.store.Reads as Store

abbrev SettledLentEach : ((T : RattleType) (l : Laws T) (c : IsCopy T) → Ghosts T.Denot → Dict → Out 2 (ps T l c) (r T l c)) → Type 2
SettledLentEach allows =
    (T : RattleType) (l : Laws T) (c : IsCopy T) (g : Ghosts T.Denot) (d : Dict) → SettledLent (λ κs e. e.0.now) (allows T l c g d)

pub store : SettledLentEach Store.Post
store T l c g d κs a x y e f p q = (refl, p ∙ sym q)
