-- What is known within an instant, and how a rehearsal goes on from there.
use Prim.Native.Nat.{ℕ, zero, suc, ◌+◌, ◌≤◌, ◌<◌}
use mathlib.Core.Path.{◌≡◌, refl, sym, ap, ◌∙◌, subst}
use mathlib.Core.List.{List}
use native.Mathlib.Decide.{ℕ_discrete}
use native.Mathlib.Omega.{arith}
use borrow.Author.Tests.{lt-ltb, le-ltb, eq-eqb, ne_eqb}
use Rattle.units.specs.Limits.{clock_limit}
use Rattle.planning.specs.declared.Plan.{Plan}
use Rattle.arrivals.specs.Arrivals.{arrivals_in, arrival_time}
use Rattle.day.specs.Desk.{Desk, takes, arrived_by, looked_at, ran_on, ends, ended_by, desk_at, ran_at, within}
use Rattle.day.proofs.Stands.{Stands, Resting, Ending, ending_start}
use Rattle.day.proofs.At.{Fine, ending_all, arrived_stands, lasts_one, cores_wide, stands_at}
use Rattle.day.proofs.Skip.{arrived_none}

module _ (pl : Plan) (xs : List ℕ) where
  -- the finishes of an instant make its desk
  pub ran_ends : (t : ℕ) → 0 < t → ended_by t pl.cores (ran_at pl xs t) ≡ desk_at pl xs t
  unfolding ran_at desk_at
  ran_ends zero l = absurd (omega arith)
  ran_ends (suc t) l = let e : suc t ≡ t + 1 = omega arith in ap (λ (u : ℕ). ended_by u pl.cores (ran_at pl xs (suc t))) e

  -- on the cores
  pub on_cores : (t k c : ℕ) → c < pl.cores → within pl xs t k c ≡ ended_by t c (ran_at pl xs t)
  on_cores t k c l = rw (lt-ltb c pl.cores l) refl

  -- among the arrivals
  pub on_arrivals : (t k c : ℕ) → pl.cores ≤ c → within pl xs t k c ≡ arrived_by pl xs t k (desk_at pl xs t)
  on_arrivals t k c l = rw (le-ltb c pl.cores l) refl

  -- one core more, where the arrivals so far came before
  pub core_more : (t k c : ℕ) → 0 < t → c < pl.cores → ((j : ℕ) → j < k → arrival_time xs j < t) → within pl xs t k (suc c) ≡ ends t c (within pl xs t k c)
  core_more t k c some l before = rw (on_cores t k c l) (go (ℕ_discrete (suc c) pl.cores))
    where
      go : Dec (suc c ≡ pl.cores) → within pl xs t k (suc c) ≡ ends t c (ended_by t c (ran_at pl xs t))
      go (no n) = on_cores t k (suc c) (omega (arith, l, n))
      go (yes e) =
          on_arrivals t k (suc c) (omega (arith, e))
          ∙ arrived_none pl xs t k (desk_at pl xs t) (λ j h z. omega (arith, before j h, z))
          ∙ sym (ran_ends t some)
          ∙ ap (λ (n : ℕ). ended_by t n (ran_at pl xs t)) (sym e)

  -- one arrival more
  pub arrival_more : (t k c : ℕ) → pl.cores ≤ c → arrival_time xs k ≡ t → within pl xs t (suc k) c ≡ takes pl xs t k (within pl xs t k c)
  arrival_more t k c l e =
      on_arrivals t (suc k) c l
      ∙ rw (eq-eqb (arrival_time xs k) t e) (ap (takes pl xs t k) (sym (on_arrivals t k c l)))

  -- all arrivals of an instant, where the others come later
  pub arrivals_all : (t k n : ℕ) (d : Desk) → k ≤ n → ((j : ℕ) → k ≤ j → j < n → arrival_time xs j ≡ t → ⊥) → arrived_by pl xs t n d ≡ arrived_by pl xs t k d
  arrivals_all t k zero d l later = let e : k ≡ 0 = omega (arith, l) in rw e refl
  arrivals_all t k (suc n) d l later = go (ℕ_discrete k (suc n)) (λ h. arrivals_all t k n d h (λ j a b. later j a (omega (arith, b))))
    where
      go : Dec (k ≡ suc n) → (k ≤ n → arrived_by pl xs t n d ≡ arrived_by pl xs t k d) → arrived_by pl xs t (suc n) d ≡ arrived_by pl xs t k d
      go (yes e) below = ap (λ (j : ℕ). arrived_by pl xs t j d) (sym e)
      go (no e) below = rw (ne_eqb (arrival_time xs n) t (later n (omega (arith, l, e)) (omega arith))) (below (omega (arith, l, e)))

  module _ (f : Fine pl xs) where
    -- before the finishes of an instant
    ran_ending : (t : ℕ) → suc t ≤ clock_limit → Ending pl (suc t) 0 (ran_at pl xs (suc t))
    unfolding ran_at
    ran_ending t l =
        let one : t + 1 ≡ suc t = omega arith in
        let m = arrived_by pl xs t (arrivals_in xs) (desk_at pl xs t) in
        let a = stands_at pl xs f t (omega (arith, l)) in
        let on = arrived_stands pl xs f t (arrivals_in xs) (desk_at pl xs t) (omega arith) a.0 a.1 in
        let e = ending_start pl t m on.0 on.1 1 (omega arith) (omega (arith, l)) (lasts_one pl xs f t m on.0 on.1) (cores_wide pl xs f) in
        subst (λ (u : ℕ). Ending pl u 0 (ran_on 1 pl.cores (looked_at pl t pl.cores m))) one e

    pub within_ending : (t k c : ℕ) → 0 < t → t ≤ clock_limit → c < pl.cores → Ending pl t c (within pl xs t k c)
    within_ending zero k c some l h = absurd (omega (arith, some))
    within_ending (suc t) k c some l h = rw (on_cores (suc t) k c h) (ending_all pl (suc t) c (ran_at pl xs (suc t)) (omega (arith, h)) (ran_ending t l))

    -- and after them
    pub within_stands : (t k c : ℕ) → t ≤ clock_limit → pl.cores ≤ c → k ≤ arrivals_in xs → Stands pl t (within pl xs t k c) × Resting pl t (within pl xs t k c)
    within_stands t k c l h few =
        let a = stands_at pl xs f t l in
        rw (on_arrivals t k c h) (arrived_stands pl xs f t k (desk_at pl xs t) few a.0 a.1)
