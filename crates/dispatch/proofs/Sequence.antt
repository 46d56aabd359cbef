-- Over any calls: the cores that a task's accepted releases answer are those of its runs, in order.
use Prim.Native.Nat.{ℕ, zero, suc, ◌+◌, ◌<◌}
use mathlib.Core.Path.{◌≡◌}
use mathlib.Core.Logic.{⊎_elim}
use mathlib.Core.List.{List, [], ◌∷◌}
use native.Mathlib.Nat.{zero-add}
use native.Mathlib.Omega.{arith}
use lib.ListN.{length, get_or}
use Rattle.planning.specs.declared.Line.{Line}
use Rattle.planning.specs.Plan.{row_of}
use Rattle.turn.specs.Runs.{core_of_run}
use Rattle.dispatch.specs.declared.Record.{Record}
use Rattle.dispatch.specs.declared.call.Call.{Call}
use Rattle.dispatch.specs.Calls.{step, after, cores_of}
use Rattle.dispatch.proofs.Turns.{Here, next}

module _ (i : ℕ) (ln : Line) where
  -- the number of runs is that of the accepted releases
  pub here_after : (cs : List Call) (r : Record) (n : ℕ) → Here i ln r n → Here i ln (after r cs) (length (cores_of i r cs) + n)
  here_after [] r n h = rw zero-add h
  here_after (c ∷ cs) r n h =
      ⊎_elim
      (λ a. rw a.0 (here_after cs (step r c) n a.1))
      (λ a.
      let m = length (cores_of i (step r c) cs) in
      let e : suc m + n ≡ m + suc n = omega arith in
      rw (a.0, e) (here_after cs (step r c) (suc n) a.1))
      (next i ln r n h c)

  -- each is answered its run's core
  pub cores_after : (cs : List Call) (r : Record) (n : ℕ) → Here i ln r n
      → (c : ℕ) → c < length (cores_of i r cs) → get_or (cores_of i r cs) c 0 ≡ core_of_run ln.weight.0 (row_of ln) (c + n)
  cores_after [] r n h = λ c l. absurd (omega arith)
  cores_after (x ∷ cs) r n h =
      ⊎_elim
      (λ a. rw a.0 (cores_after cs (step r x) n a.1))
      (λ a. rw a.0 (first (cores_after cs (step r x) (suc n) a.1)))
      (next i ln r n h x)
    where
      first : ((c : ℕ) → c < length (cores_of i (step r x) cs) → get_or (cores_of i (step r x) cs) c 0 ≡ core_of_run ln.weight.0 (row_of ln) (c + suc n))
          → (c : ℕ) → c < suc (length (cores_of i (step r x) cs))
          → get_or (core_of_run ln.weight.0 (row_of ln) n ∷ cores_of i (step r x) cs) c 0 ≡ core_of_run ln.weight.0 (row_of ln) (c + n)
      first f zero l = rw (zero-add n)
      first f (suc c) l = let e : suc c + n ≡ c + suc n = omega arith in rw e (f c (omega arith))
