-- Any two answers that a public function's contract allows are equal.
use mathlib.Core.Path.{◌≡◌, refl, sym, ap, ◌∙◌}
use lib.IntN.{ℤ}
use Rattle.std.specs.declared.result.Result.{Result}
use Rattle.std.specs.declared.result.Result.TheVariants.{Ok, Err}
use Rattle.lists.specs.Settled.{Settled}
use Rattle.units.specs.declared.refusal.Reason.{Reason}
use Rattle.units.specs.declared.refusal.Reason.TheVariants as Reasons
use Rattle.units.specs.declared.refusal.Refusal.{Refusal as Refused}
use Rattle.units.proofs.Refusals.{refuses, same_reason, same_refusal}
use Rattle.stored_runs.specs.declared.Run.{Run}
use Rattle.core_choice.specs.declared.Choice.{Choice}
use Rattle.core_choice.specs.declared.Told.{Told}
use Rattle.dispatch.specs.declared.Record.{Record}
use Rattle.dispatch.specs.declared.After.{After}
use Rattle.dispatch.specs.declared.call.Answer.{Answer as TakenAnswer}
use Rattle.dispatch.specs.declared.call.Answer.TheVariants as Taken
use Rattle.dispatch.specs.Record.{Fresh, fresh_told}
use Rattle.dispatch.specs.Release.{Released, release_told, refuse_release}
use Rattle.dispatch.specs.Finish.{Finished, finish_told, refuse_finish}
use Rattle.dispatch.specs.Look.{Looked, LookedTold, look_told, numbers_told}
use Rattle.dispatch.specs.Calls.{Answer, Answered, call_told, refusal_in}
use Rattle.dispatch.specs.Calls.Answer.{Refused as refused, Released as released, Finished as finished, Looked as looked}
use Rattle.dispatch.proofs.Record.of.Reads as Of
use Rattle.dispatch.proofs.Record.fresh.Reads as FreshReads
use Rattle.dispatch.proofs.Record.sound.Reads as Sound
use Rattle.dispatch.proofs.Record.release.Reads as Release
use Rattle.dispatch.proofs.Record.finish.Reads as Finish
use Rattle.dispatch.proofs.Record.look.Reads as Look
use Rattle.dispatch.proofs.Record.look_in_numbers.Reads as LookInNumbers
use Rattle.dispatch.proofs.Record.call.Reads as Call

-- an answer with a number of its own is settled by what it tells
fresh_settled : (x y : Result Record Refused) → fresh_told x ≡ fresh_told y → x ≡ y
fresh_settled (Ok a) (Ok b) e = ap (λ (r : Record). Ok r) (ap (λ (z : Fresh). z.next) e)
fresh_settled (Ok a) (Err s) e = refuses s.reason (sym (ap (λ (z : Fresh). z.refusal.no) e))
fresh_settled (Err r) (Ok b) e = refuses r.reason (ap (λ (z : Fresh). z.refusal.no) e)
fresh_settled (Err r) (Err s) e = ap (λ (t : Refused). Err t) (same_refusal r s (ap (λ (z : Fresh). z.refusal) e))

release_settled : (x y : Result Run Reason) (r s : Record) → release_told x r ≡ release_told y s → x ≡ y
unfolding refuse_release
release_settled (Ok a) (Ok b) r s e = λ i. Ok (record { core = (e i).core; deadline = (e i).deadline })
release_settled (Ok a) (Err q) r s e = refuses q (sym (ap (λ (z : Released). z.refusal) e))
release_settled (Err p) (Ok b) r s e = refuses p (ap (λ (z : Released). z.refusal) e)
release_settled (Err p) (Err q) r s e = ap (λ (t : Reason). Err t) (same_reason p q (ap (λ (z : Released). z.refusal) e))

release_next : (x : Result Run Reason) (r : Record) → (release_told x r).next ≡ r
unfolding refuse_release
release_next (Ok a) r = refl
release_next (Err p) r = refl

finish_settled : (x y : Result ℤ Reason) (r s : Record) → finish_told x r ≡ finish_told y s → x ≡ y
unfolding refuse_finish
finish_settled (Ok a) (Ok b) r s e = ap (λ (z : ℤ). Ok z) (ap (λ (z : Finished). z.late) e)
finish_settled (Ok a) (Err q) r s e = refuses q (sym (ap (λ (z : Finished). z.refusal) e))
finish_settled (Err p) (Ok b) r s e = refuses p (ap (λ (z : Finished). z.refusal) e)
finish_settled (Err p) (Err q) r s e = ap (λ (t : Reason). Err t) (same_reason p q (ap (λ (z : Finished). z.refusal) e))

finish_next : (x : Result ℤ Reason) (r : Record) → (finish_told x r).next ≡ r
unfolding refuse_finish
finish_next (Ok a) r = refl
finish_next (Err p) r = refl

look_settled : (x y : Result Choice Reason) (r s : Record) → look_told x r ≡ look_told y s → x ≡ y
look_settled (Ok a) (Ok b) r s e = ap (λ (z : Choice). Ok z) (ap (λ (z : Looked). z.choice) e)
look_settled (Ok a) (Err q) r s e = refuses q (sym (ap (λ (z : Looked). z.refusal) e))
look_settled (Err p) (Ok b) r s e = refuses p (ap (λ (z : Looked). z.refusal) e)
look_settled (Err p) (Err q) r s e = ap (λ (t : Reason). Err t) (same_reason p q (ap (λ (z : Looked). z.refusal) e))

look_next : (x : Result Choice Reason) (r : Record) → (look_told x r).next ≡ r
look_next (Ok a) r = refl
look_next (Err p) r = refl

numbers_settled : (x y : Result Told Reason) (r s : Record) → numbers_told x r ≡ numbers_told y s → x ≡ y
numbers_settled (Ok a) (Ok b) r s e = ap (λ (z : Told). Ok z) (ap (λ (z : LookedTold). z.told) e)
numbers_settled (Ok a) (Err q) r s e = refuses q (sym (ap (λ (z : LookedTold). z.refusal) e))
numbers_settled (Err p) (Ok b) r s e = refuses p (ap (λ (z : LookedTold). z.refusal) e)
numbers_settled (Err p) (Err q) r s e = ap (λ (t : Reason). Err t) (same_reason p q (ap (λ (z : LookedTold). z.refusal) e))

numbers_next : (x : Result Told Reason) (r : Record) → (numbers_told x r).next ≡ r
numbers_next (Ok a) r = refl
numbers_next (Err p) r = refl

-- the answer that a value of a call tells, but for the reason of a refusal
taken_by : Reason → Answer → Result TakenAnswer Reason
taken_by p (refused x) = Err p
taken_by p (released i d) = Ok (Taken.Released i d)
taken_by p (finished z) = Ok (Taken.Finished z)
taken_by p (looked c) = Ok (Taken.Looked c)

taken_back : (p : Reason) (a : TakenAnswer) → taken_by p (call_told (Ok a)) ≡ Ok a
unfolding taken_by
taken_back p (Taken.Released i d) = refl
taken_back p (Taken.Finished z) = refl
taken_back p (Taken.Looked c) = refl

taken_none : (a : TakenAnswer) → refusal_in (call_told (Ok a)) ≡ 0
taken_none (Taken.Released i d) = refl
taken_none (Taken.Finished z) = refl
taken_none (Taken.Looked c) = refl

call_settled : (p : Reason) (x y : Result TakenAnswer Reason) → call_told x ≡ call_told y → x ≡ y
call_settled p (Ok a) (Ok b) e = sym (taken_back p a) ∙ ap (taken_by p) e ∙ taken_back p b
call_settled p (Ok a) (Err q) e = refuses q (sym (ap refusal_in e) ∙ taken_none a)
call_settled p (Err o) (Ok b) e = refuses o (ap refusal_in e ∙ taken_none b)
call_settled p (Err o) (Err q) e = ap (λ (t : Reason). Err t) (same_reason o q (ap refusal_in e))

-- a call's answer and the record after it
both : {T : Type 0} (x y : After T) → x.answer ≡ y.answer → x.next ≡ y.next → x ≡ y
both x y a n = λ i. record { answer = a i; next = n i }

pub of : Settled Of.Post
of κs a x y e f p q = p ∙ sym q

pub fresh : Settled FreshReads.Post
fresh κs a x y e f p q = fresh_settled x y (p ∙ sym q)

pub sound : Settled Sound.Post
sound κs a x y e f p q = p ∙ sym q

pub release : Settled Release.Post
release κs a x y e f p q =
    let t = p ∙ sym q in
    both x y (release_settled x.answer y.answer x.next y.next t)
    (sym (release_next x.answer x.next) ∙ ap (λ (z : Released). z.next) t ∙ release_next y.answer y.next)

pub finish : Settled Finish.Post
finish κs a x y e f p q =
    let t = p ∙ sym q in
    both x y (finish_settled x.answer y.answer x.next y.next t)
    (sym (finish_next x.answer x.next) ∙ ap (λ (z : Finished). z.next) t ∙ finish_next y.answer y.next)

pub look : Settled Look.Post
look κs a x y e f p q =
    let t = p ∙ sym q in
    both x y (look_settled x.answer y.answer x.next y.next t)
    (sym (look_next x.answer x.next) ∙ ap (λ (z : Looked). z.next) t ∙ look_next y.answer y.next)

pub look_in_numbers : Settled LookInNumbers.Post
look_in_numbers κs a x y e f p q =
    let t = p ∙ sym q in
    both x y (numbers_settled x.answer y.answer x.next y.next t)
    (sym (numbers_next x.answer x.next) ∙ ap (λ (z : LookedTold). z.next) t ∙ numbers_next y.answer y.next)

pub call : Settled Call.Post
call κs a x y e f p q =
    let t = p ∙ sym q in
    both x y (call_settled Reasons.Cores x.answer y.answer (ap (λ (z : Answered). z.answer) t)) (ap (λ (z : Answered). z.next) t)
