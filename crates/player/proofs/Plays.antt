-- The equations of playing calls, as the code meets them.
use Rattle.std.specs.declared.option.Option.TheVariants.{Some, None}
use Prim.Native.Nat.{ℕ, zero, suc, ◌+◌, ◌*◌, ◌≤◌}
use mathlib.Core.Path.{◌≡◌, refl, sym, ap, ◌∙◌}
use mathlib.Core.List.{List, [], ◌∷◌, ◌++◌, append-nil, append_assoc}
use native.Mathlib.Omega.{arith}
use borrow.Author.Tests.{lt-ltb, le-ltb}
use lib.Dec.{ltb}
use lib.ListN.{length}
use Rattle.lists.proofs.Tests.{by_cases}
use Rattle.writing.specs.Wrote.{Wrote}
use Rattle.writing.proofs.Wrote.{none, then, recast}
use Rattle.dispatch.specs.declared.Record.{Record}
use Rattle.dispatch.specs.declared.call.Call.{Call}
use Rattle.dispatch.specs.Calls.{Answered}
use Rattle.dispatch.specs.Calls.{answered_of}
use Rattle.calls_text.specs.Line.{call_line}
use Rattle.calls_text.specs.Input.{input_limit, then_calls, calls_from}
use Rattle.player.specs.Answers.{answer_line}
use Rattle.player.specs.Played.{answers_limit, answers_text}
use Rattle.calls_text.specs.Line.{CallLine}
use Rattle.calls_text.proofs.Lines.{Reach, call_reach, line_reach, line_inside}

-- a later place gives the same calls, the rest of them
then_same : (k at : ℕ) (line : CallLine) {f g : ℕ → List Call} → Reach k at line
    → ((next : ℕ) → at + k ≤ next → f next ≡ g next) → then_calls f line ≡ then_calls g line
unfolding then_calls
then_same k at (Some (c, next)) h e = ap (λ (cs : List Call). c ∷ cs) (e next h)
then_same k at None h e = refl

-- past the end there is none
past : (s : List ℕ) (f at : ℕ) → length s ≤ at → calls_from f s at ≡ []
unfolding calls_from
past s zero at h = refl
past s (suc f) at h = rw (le-ltb at (length s) h) refl

-- any count of steps that is enough gives the same calls
enough : (s : List ℕ) (f g at : ℕ) → length s ≤ at + f → length s ≤ at + g → calls_from f s at ≡ calls_from g s at
unfolding calls_from
enough s zero g at h k = sym (past s g at (omega arith))
enough s (suc f) zero at h k = past s (suc f) at (omega arith)
enough s (suc f) (suc g) at h k =
    by_cases (ltb at (length s))
    (λ e. rw e (then_same 9 at (call_line s at) (call_reach s at) (λ next p. enough s f g next (omega arith) (omega arith))))
    (λ e. rw e refl)

-- the calls from a place on
abbrev pub calls_at : List ℕ → ℕ → List Call
calls_at s at = calls_from (length s) s at

module _ (s : List ℕ) (at : ℕ) where
  -- one line's, then the later ones
  calls_next : {c : Call} {next : ℕ} → call_line s at ≡ Some (c, next) → calls_at s at ≡ c ∷ calls_at s next
  unfolding calls_from then_calls
  calls_next e = enough s (length s) (suc (length s)) at (omega arith) (omega arith) ∙ rw (lt-ltb at (length s) (line_inside s at e), e) refl

  -- none where the line cannot be read
  calls_none : call_line s at ≡ None → calls_at s at ≡ []
  unfolding calls_from then_calls
  calls_none e = go (length s)
    where
      go : (f : ℕ) → calls_from f s at ≡ []
      go zero = refl
      go (suc f) = by_cases (ltb at (length s)) (λ h. rw (h, e) refl) (λ h. rw h refl)

-- while calls are played: what is written, and what is left to play, make up the whole
pub record Playing (s : List ℕ) (from : ℕ) (first : Record) (before : List ℕ) (held : Record) (now : List ℕ) (at end : ℕ) : Type 0 where
  pub done : List ℕ
  pub wrote : Wrote before 0 done now end
  pub left : answers_text first (calls_at s from) ≡ done ++ answers_text held (calls_at s at)
  pub few : end ≤ 7 * at
  pub short : end ≤ answers_limit

pub begun : (s : List ℕ) (from : ℕ) (first : Record) (before : List ℕ) → Playing s from first before first before from 0
begun s from first before = record { done = []; wrote = none before 0; left = refl; few = omega arith; short = omega arith }

module _ {s before now : List ℕ} {first held : Record} {from at end : ℕ} (h : Playing s from first before held now at end) where
  -- all is written where nothing is left
  all : calls_at s at ≡ [] → Wrote before 0 (answers_text first (calls_at s from)) now end
  unfolding answers_text
  all e = recast (sym (h.left ∙ rw e (append-nil h.done))) h.wrote

  -- where no call can be read
  pub ended : None ≡ call_line s at → Wrote before 0 (answers_text first (calls_at s from)) now end
  ended e = all (calls_none s at (sym e))

  -- after a call
  pub onward : {c : Call} {next end' : ℕ} {a : Answered} {now' : List ℕ} → length s ≤ input_limit → Some (c, next) ≡ call_line s at
      → a ≡ answered_of held c → Wrote now end (answer_line a.answer) now' end' → end' ≤ end + 60 → Playing s from first before a.next now' next end'
  unfolding answers_text
  onward {c} {next} {end'} {a} {now'} short e g w b =
      let r : at + 9 ≤ next = line_reach s at (sym e) in
      let i = line_inside s at (sym e) in
      let x = answered_of held c in
      record {
        done = h.done ++ answer_line a.answer;
        wrote = then h.wrote w;
        left = h.left ∙ ap (λ (cs : List Call). h.done ++ answers_text held cs) (calls_next s at (sym e))
            ∙ rw g (sym (append_assoc h.done (answer_line x.answer) (answers_text x.next (calls_at s next))));
        few = omega (arith, h.few, b, r);
        short = omega (arith, h.few, b, short, i);
      }
