-- What a tick does in which order, and when a run is finished.
use Prim.Native.Nat.{ℕ, suc, ◌-◌, ◌<◌}
use mathlib.Core.Path.{◌≡◌, refl, ap}
use mathlib.Core.Bool.{Bool, true, cond}
use mathlib.Core.List.{[], ◌∷◌}
use borrow.Author.Tests.{lt-ltb, eq-eqb}
use lib.Dec.{ltb, eqb}
use Rattle.lists.proofs.Tests.{and_true}
use Rattle.run_lengths.specs.Work.{length_at}
use Rattle.day_rules.specs.Day.{Day, work_at, had_at, going_at, taken, looks, runs_on, done, finished, finish, finishes, tick}

-- an arrival of tick t is taken first, then the m cores are looked at, each choice has one tick, and what is done by then is finished
pub one_arrival : (t i n m : ℕ) (d : Day) → let xs = t ∷ i ∷ n ∷ [] in tick xs m t d ≡ finishes (suc t) m (runs_on m (looks t m (taken xs t 0 d)))
one_arrival t i n m d = rw (eq-eqb t t refl) refl

-- the run of the core after the first n is finished after theirs, if it is done
pub next_core_lem : (t n : ℕ) (d : Day) → let e = finishes t n d in done e (going_at e n).task ≡ true → finishes t (suc n) d ≡ finished t n e
next_core_lem t n d h = let e = finishes t n d in ap (λ (b : Bool). cond b (finished t n e) e) h

-- a run that has had its length is finished
pub had_all : (t p : ℕ) (d : Day) → let i = (going_at d p).task in 0 < i → had_at d (i - 1) ≡ length_at (work_at d (i - 1)) 0 → finish t p d ≡ finished t p d
had_all t p d l e =
    let i = (going_at d p).task in
    let had = had_at d (i - 1) in
    let all = length_at (work_at d (i - 1)) 0 in
    ap (λ (b : Bool). cond b (finished t p d) d) (and_true (ltb 0 i) (eqb had all) (lt-ltb 0 i l) (eq-eqb had all e))
