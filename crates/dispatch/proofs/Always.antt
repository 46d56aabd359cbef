-- After any calls from a good record: it is good, its clock has not fallen, its plan is the same.
use Prim.Native.Nat.{◌≤◌}
use mathlib.Core.Path.{◌≡◌, refl, sym, ap, ◌∙◌}
use mathlib.Core.List.{List, [], ◌∷◌}
use native.Mathlib.Decide.{ℕ_discrete}
use native.Mathlib.Nat.{le_refl, le_trans}
use native.Mathlib.Omega.{arith}
use Rattle.dispatch.specs.declared.Record.{Record}
use Rattle.dispatch.specs.declared.call.Call.{Call}
use Rattle.dispatch.specs.declared.call.Call.TheVariants.{Release, Finish, Look}
use Rattle.dispatch.specs.Release.{Released}
use Rattle.dispatch.specs.Finish.{Finished}
use Rattle.dispatch.specs.Look.{Looked}
use Rattle.dispatch.specs.Shape.{Good}
use Rattle.dispatch.specs.Calls.{time_of, call_refusal, step, after}
use Rattle.dispatch.proofs.Passed.{release_passed, finish_passed, look_passed}
use Rattle.dispatch.proofs.Answers.{release_refused, release_taken, finish_refused, finish_taken, look_refused, look_taken}
use Rattle.dispatch.proofs.OneCall.{release_no_lem, finish_no_lem, look_no}
use Rattle.dispatch.proofs.Keeps.{release_good, finish_good, look_good}

-- a call keeps a good record good
pub step_good : (r : Record) (c : Call) → Good r → Good (step r c)
step_good r (Release i t) g = release_good r i t.0 g
step_good r (Finish i t) g = finish_good r i t.0 g
step_good r (Look k t) g = look_good r k t.0 g

-- and so do any calls
pub always_good : (r : Record) (cs : List Call) → Good r → Good (after r cs)
always_good r [] g = g
always_good r (c ∷ cs) g = always_good (step r c) cs (step_good r c g)

-- a refused call hands back the record that it was given
pub refused_same : (r : Record) (c : Call) → (call_refusal r c ≡ 0 → ⊥) → step r c ≡ r
refused_same r (Release i t) n = ap (λ (a : Released). a.next) (release_refused r i t.0 (release_no_lem r i t) n)
refused_same r (Finish i t) n = ap (λ (a : Finished). a.next) (finish_refused r i t.0 (finish_no_lem r i t) n)
refused_same r (Look k t) n = ap (λ (a : Looked). a.next) (look_refused r k t.0 (look_no r k t) n)

-- an accepted one sets the clock to its time
pub accepted_clock : (r : Record) (c : Call) → call_refusal r c ≡ 0 → (step r c).clock.0 ≡ time_of c
accepted_clock r (Release i t) e = ap (λ (a : Released). a.next.clock.0) (release_taken r i t.0 (release_no_lem r i t) e refl)
accepted_clock r (Finish i t) e = ap (λ (a : Finished). a.next.clock.0) (finish_taken r i t.0 (finish_no_lem r i t) e refl refl)
accepted_clock r (Look k t) e = ap (λ (a : Looked). a.next.clock.0) (look_taken r k t.0 (look_no r k t) e refl)

-- its time is not below the clock
accepted_time : (r : Record) (c : Call) → call_refusal r c ≡ 0 → r.clock.0 ≤ time_of c
accepted_time r (Release i t) e = (release_passed r i t.0 (sym (release_no_lem r i t) ∙ e)).0.clock
accepted_time r (Finish i t) e = (finish_passed r i t.0 (sym (finish_no_lem r i t) ∙ e)).0.clock
accepted_time r (Look k t) e = (look_passed r k t.0 (sym (look_no r k t) ∙ e)).clock

-- so the clock never falls
pub step_clock : (r : Record) (c : Call) → r.clock.0 ≤ (step r c).clock.0
step_clock r c = go (ℕ_discrete (call_refusal r c) 0)
  where
    go : Dec (call_refusal r c ≡ 0) → r.clock.0 ≤ (step r c).clock.0
    go (yes e) = omega (arith, accepted_clock r c e, accepted_time r c e)
    go (no n) = rw (refused_same r c n) (le_refl r.clock.0)

-- over any calls
pub clock_rises : (r : Record) (cs : List Call) → r.clock.0 ≤ (after r cs).clock.0
clock_rises r [] = le_refl r.clock.0
clock_rises r (c ∷ cs) = le_trans (step_clock r c) (clock_rises (step r c) cs)

-- the plan never changes
accepted_plan : (r : Record) (c : Call) → call_refusal r c ≡ 0 → (step r c).plan ≡ r.plan
accepted_plan r (Release i t) e = ap (λ (a : Released). a.next.plan) (release_taken r i t.0 (release_no_lem r i t) e refl)
accepted_plan r (Finish i t) e = ap (λ (a : Finished). a.next.plan) (finish_taken r i t.0 (finish_no_lem r i t) e refl refl)
accepted_plan r (Look k t) e = ap (λ (a : Looked). a.next.plan) (look_taken r k t.0 (look_no r k t) e refl)

-- so no call changes it
pub step_plan : (r : Record) (c : Call) → (step r c).plan ≡ r.plan
step_plan r c = go (ℕ_discrete (call_refusal r c) 0)
  where
    go : Dec (call_refusal r c ≡ 0) → (step r c).plan ≡ r.plan
    go (yes e) = accepted_plan r c e
    go (no n) = ap (λ (q : Record). q.plan) (refused_same r c n)

-- nor do any calls
pub plan_same : (r : Record) (cs : List Call) → (after r cs).plan ≡ r.plan
plan_same r [] = refl
plan_same r (c ∷ cs) = plan_same (step r c) cs ∙ step_plan r c
