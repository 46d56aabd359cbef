-- A good record is never refused as unsound, after any calls; and no call on any record is refused by 9.
use mathlib.Core.Path.{◌≡◌, sym, ◌∙◌}
use mathlib.Core.Bool.{false≢true}
use mathlib.Core.List.{List}
use native.Mathlib.Omega.{arith}
use Rattle.dispatch.specs.declared.Record.{Record}
use Rattle.dispatch.specs.declared.call.Call.{Call}
use Rattle.dispatch.specs.declared.call.Call.TheVariants.{Release, Finish, Look}
use Rattle.dispatch.specs.Shape.{Good}
use Rattle.dispatch.specs.Calls.{call_refusal, after}
use Rattle.dispatch.specs.Given.{here, past, Given}
use Rattle.dispatch.proofs.Always.{always_good}
use Rattle.dispatch.proofs.Exactly.{exactly}

-- no other row gives 15
good_15 : (r : Record) → Good r → (c : Call) → Given r c 15 → ⊥
good_15 r g (Release i t) (here u) = false≢true (sym u ∙ g.sound)
good_15 r g (Release i t) (past s (past a (past b (past c (past d (past e n)))))) = omega arith
good_15 r g (Finish i t) (here u) = false≢true (sym u ∙ g.sound)
good_15 r g (Finish i t) (past s (past a (past b (past c (past d n))))) = omega arith
good_15 r g (Look k t) (here u) = false≢true (sym u ∙ g.sound)
good_15 r g (Look k t) (past s (past a (past b (past c n)))) = omega arith

-- 15 is never given after them
pub never_15 : (r : Record) (cs : List Call) (c : Call) → Good r → call_refusal (after r cs) c ≡ 15 → ⊥
never_15 r cs c g e = good_15 (after r cs) (always_good r cs g) c ((exactly (after r cs) c 15).0 e)

-- no row gives 9
no_row_9 : (r : Record) (c : Call) → Given r c 9 → ⊥
no_row_9 r (Release i t) (past s (past a (past b (past c (past d (past e n)))))) = omega arith
no_row_9 r (Finish i t) (past s (past a (past b (past c (past d n))))) = omega arith
no_row_9 r (Look k t) (past s (past a (past b (past c n)))) = omega arith

-- so it is never given
pub never_9 : (r : Record) (c : Call) → call_refusal r c ≡ 9 → ⊥
never_9 r c e = no_row_9 r c ((exactly r c 9).0 e)
