-- What a rehearsal's laws ask, from arrivals of which none is refused, and its calls as calls of a record.
use Prim.Native.Nat.{ℕ, suc, ◌+◌, ◌≤◌}
use mathlib.Core.Path.{◌≡◌, sym, ap, ◌∙◌}
use mathlib.Core.Bool.{true}
use mathlib.Core.List.{List}
use native.Mathlib.Numerals.{add-one}
use native.Mathlib.Omega.{arith}
use Rattle.units.specs.Limits.{clock_limit}
use Rattle.units.specs.Units.{ticks}
use Rattle.units.specs.Refusals.{refusal}
use Rattle.units.specs.Refusals.{Refusal}
use Rattle.planning.specs.declared.Plan.{Plan}
use Rattle.planning.specs.Shape.{PlanShaped}
use Rattle.soundness.specs.Plan.{plan_sound}
use Rattle.dispatch.specs.declared.Record.{Record}
use Rattle.dispatch.specs.declared.call.Call.TheVariants.{Release, Finish, Look}
use Rattle.dispatch.specs.Release.{release_of}
use Rattle.dispatch.specs.Finish.{finish_of}
use Rattle.dispatch.specs.Look.{look_of}
use Rattle.dispatch.specs.Calls.{call_refusal}
use Rattle.dispatch.proofs.Answers.{release_answer, finish_answer, look_answer}
use Rattle.dispatch.proofs.OneCall.{release_no_lem, finish_no_lem, look_no}
use Rattle.arrivals.specs.Arrivals.{arrivals_in, arrivals_refusal}
use Rattle.arrivals.specs.Fine as Arrivals
use Rattle.arrivals.proofs.Passed as Passed
use Rattle.day.specs.Desk.{arrived_by, desk_at}
use Rattle.day.proofs.Stands.{Stands, Resting}
use Rattle.day.proofs.At.{Fine, fine_of, arrived_stands, stands_at}
use Rattle.day_words.specs.Words.{Rising}

module _ (pl : Plan) (shaped : PlanShaped pl) (sound : plan_sound pl ≡ true) (xs : List ℕ)
    (passed : arrivals_refusal pl xs (arrivals_in xs) ≡ refusal 0 0) where
  arrive_fine : Arrivals.Fine pl xs (arrivals_in xs)
  arrive_fine = Passed.fine pl xs (arrivals_in xs) (ap (λ (x : Refusal). x.no) passed)

  pub fine : Fine pl xs
  fine = fine_of shaped sound arrive_fine

  -- at each instant, once its arrivals are taken
  pub taken_stands : (t : ℕ) → t ≤ clock_limit
      → let d = arrived_by pl xs t (arrivals_in xs) (desk_at pl xs t) in Stands pl t d × Resting pl t d
  taken_stands t l =
      let s = stands_at pl xs fine t l in
      arrived_stands pl xs fine t (arrivals_in xs) (desk_at pl xs t) (omega arith) s.0 s.1

  -- times do not fall
  pub rising : Rising xs
  rising k l = let e : k + 1 ≡ suc k = add-one k in rw e at (arrive_fine.rising k (rw e l))

module _ (r : Record) (i t : ℕ) where
  -- a release's refusal
  pub release_called : call_refusal r (Release i (ticks t)) ≡ (release_of r i t).refusal
  release_called = release_no_lem r i (ticks t) ∙ sym (release_answer r i t)

  -- a finish's
  pub finish_called : call_refusal r (Finish i (ticks t)) ≡ (finish_of r i t).refusal
  finish_called = finish_no_lem r i (ticks t) ∙ sym (finish_answer r i t)

  -- a look's
  pub look_called : call_refusal r (Look i (ticks t)) ≡ (look_of r i t).refusal
  look_called = look_no r i (ticks t) ∙ sym (look_answer r i t)
