-- Each call keeps a good record good, whatever its numbers.
use Prim.Native.Nat.{ℕ, ◌-◌}
use mathlib.Core.Path.{◌≡◌, refl}
use native.Mathlib.Decide.{ℕ_discrete}
use Rattle.task_state.specs.Due.{release_at}
use Rattle.task_state.specs.Runs.{with_run, taken_run, without_run}
use Rattle.state_rules.proofs.Facts.{facts, turnable}
use Rattle.task_state.proofs.Passed.{release_in, has_room}
use Rattle.state_rules.proofs.Taken.{with_shaped, with_sound}
use Rattle.state_rules.proofs.Ended.{without_shaped, without_sound}
use Rattle.dispatch.specs.declared.Record.{Record}
use Rattle.dispatch.specs.Record.{line_at, state_at}
use Rattle.dispatch.specs.Refusals.{look_refusal, release_refusal, finish_refusal}
use Rattle.dispatch.specs.Release.{release_of}
use Rattle.dispatch.specs.Finish.{finish_of}
use Rattle.dispatch.specs.Look.{look_of}
use Rattle.dispatch.specs.Shape.{Good}
use Rattle.dispatch.proofs.Records.{task_lined, task_wide, task_shaped, task_sound, moved_good, timed_good}
use Rattle.dispatch.proofs.Passed.{release_passed, finish_passed, look_passed}
use Rattle.dispatch.proofs.Answers.{release_refused, finish_refused, look_refused, release_taken, finish_taken, look_taken}

module _ (r : Record) (i t : ℕ) (g : Good r) where
  -- a release
  pub release_good : Good (release_of r i t).next
  unfolding taken_run
  release_good = go (ℕ_discrete (release_refusal r i t) 0)
    where
      go : Dec (release_refusal r i t ≡ 0) → Good (release_of r i t).next
      go (no n) = rw (release_refused r i t refl n) g
      go (yes e) =
          let p = release_passed r i t e in
          let ln = line_at r (i - 1) in
          let st = state_at r (i - 1) in
          let x = release_at ln st t in
          let h = p.0.here in
          let l = task_lined r g (i - 1) h in
          let wide = task_wide r g (i - 1) h in
          let sh = task_shaped r g (i - 1) h in
          let s = task_sound r g (i - 1) h in
          let f = facts ln st s in
          let turn = turnable ln st f l.small l.shares in
          rw (release_taken r i t refl e refl)
          (moved_good r g (i - 1) h (with_run ln st x) t p.0.limit
          (with_shaped ln st x wide sh turn)
          (with_sound ln st x wide sh turn (has_room ln st t p.1 f.few) (release_in ln st t p.1) s))

  -- a finish
  pub finish_good : Good (finish_of r i t).next
  finish_good = go (ℕ_discrete (finish_refusal r i t) 0)
    where
      go : Dec (finish_refusal r i t ≡ 0) → Good (finish_of r i t).next
      go (no n) = rw (finish_refused r i t refl n) g
      go (yes e) =
          let p = finish_passed r i t e in
          let h = p.0.here in
          let sh = task_shaped r g (i - 1) h in
          let s = task_sound r g (i - 1) h in
          rw (finish_taken r i t refl e refl refl)
          (moved_good r g (i - 1) h (without_run (state_at r (i - 1))) t p.0.limit
          (without_shaped (state_at r (i - 1)) sh)
          (without_sound (line_at r (i - 1)) (state_at r (i - 1)) sh s))

  -- a look at core i
  pub look_good : Good (look_of r i t).next
  look_good = go (ℕ_discrete (look_refusal r i t) 0)
    where
      go : Dec (look_refusal r i t ≡ 0) → Good (look_of r i t).next
      go (no n) = rw (look_refused r i t refl n) g
      go (yes e) = rw (look_taken r i t refl e refl) (timed_good r g t (look_passed r i t e).limit)
