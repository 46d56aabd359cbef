-- Every arrival before the stop is in exactly one of: finished, unfinished, refused.
use Prim.Native.Nat.{ℕ, zero, suc, ◌+◌, ◌-◌, ◌≤◌, ◌<◌}
use mathlib.Core.Path.{◌≡◌, refl, sym, ◌∙◌, subst}
use mathlib.Core.Logic.{◌⊎◌, inl, inr}
use mathlib.Core.Bool.{Bool, true, false, cond, ◌&&◌}
use mathlib.Core.List.{List, [], ◌∷◌}
use native.Mathlib.Decide.{ℕ_discrete, dec_lt}
use native.Mathlib.Omega.{arith}
use lib.Dec.{ltb, leb, eqb}
use lib.ListN.{length, get_or, length-append, get_or-append}
use lib.Seq.{get_or_at, get_or-append-add}
use borrow.Author.Tests.{lt-ltb, le-ltb, le-leb, eq-eqb, ne_eqb}
use Rattle.lists.specs.Lists.{bit}
use Rattle.lists.proofs.Tests.{by_cases}
use Rattle.units.specs.Limits.{clock_limit}
use Rattle.planning.specs.declared.Plan.{Plan}
use Rattle.arrivals.specs.Arrivals.{arrivals_in, arrival_time, arrival_task}
use Rattle.day_lines.specs.declared.Event.{Event}
use Rattle.day_rules.specs.Day.{events_of}
use Rattle.day.proofs.At.{Fine}
use Rattle.day_words.specs.Words.{counted, accepted, taken_in, taken_before, says_refused, says_finished, says_unfinished, accepted_before, run_number, Rising}
use Rattle.day_words.proofs.Finishes.{taken_length, taken_same}
use Rattle.day_words.proofs.Counts.{refused_once, runs_once}

-- times do not fall over many arrivals
rise : (xs : List ℕ) → Rising xs → (j k : ℕ) → j ≤ k → k < arrivals_in xs → arrival_time xs j ≤ arrival_time xs k
rise xs r j zero l h = let e : j ≡ 0 = omega (arith, l) in rw e (omega arith)
rise xs r j (suc k) l h = go (λ b. rise xs r j k b (omega (arith, h))) (ℕ_discrete j (suc k))
  where
    go : (j ≤ k → arrival_time xs j ≤ arrival_time xs k) → Dec (j ≡ suc k) → arrival_time xs j ≤ arrival_time xs (suc k)
    go below (yes e) = rw e (omega arith)
    go below (no e) = omega (arith, below (omega (arith, l, e)), r k h)

-- before the next instant is before this one, or at it
next_bit : (x t : ℕ) (b c : Bool) → bit (eqb x t && b && c) + bit (ltb x t && b && c) ≡ bit (ltb x (suc t) && b && c)
next_bit x t b c = go (ℕ_discrete x t) (dec_lt x t)
  where
    go : Dec (x ≡ t) → Dec (x < t) → bit (eqb x t && b && c) + bit (ltb x t && b && c) ≡ bit (ltb x (suc t) && b && c)
    go (yes e) h = rw (eq-eqb x t e, le-ltb x t (omega (arith, e)), lt-ltb x (suc t) (omega (arith, e))) (omega arith)
    go (no e) (yes h) = rw (ne_eqb x t e, lt-ltb x t h, lt-ltb x (suc t) (omega (arith, h))) (omega arith)
    go (no e) (no h) = rw (ne_eqb x t e, le-ltb x t (omega (arith, h)), le-ltb x (suc t) (omega (arith, e, h))) refl

one_length : (b : Bool) (k : ℕ) → length (cond b (k ∷ []) []) ≡ bit b
one_length true k = refl
one_length false k = refl

module _ (pl : Plan) (xs : List ℕ) (i : ℕ) where
  -- of the first n arrivals those of task i that are accepted, before t
  abbrev before : ℕ → ℕ → ℕ
  before t zero = 0
  before t (suc k) = before t k + bit (ltb (arrival_time xs k) t && eqb (arrival_task xs k) i && accepted pl xs k)

  abbrev its : ℕ → ℕ → Bool
  its t k = eqb (arrival_time xs k) t && eqb (arrival_task xs k) i && accepted pl xs k

  -- with those of t
  in_count : (t n : ℕ) → length (taken_in pl xs i t n) + before t n ≡ before (suc t) n
  in_count t zero = refl
  in_count t (suc k) =
      let a : length (taken_in pl xs i t (suc k)) ≡ length (taken_in pl xs i t k) + bit (its t k) =
      length-append (taken_in pl xs i t k) (cond (its t k) (k ∷ []) []) ∙ rw (one_length (its t k) k) refl in
      omega (arith, a, in_count t k, next_bit (arrival_time xs k) t (eqb (arrival_task xs k) i) (accepted pl xs k))

  none_before : (n : ℕ) → before 0 n ≡ 0
  none_before zero = refl
  none_before (suc k) = rw (none_before k, le-ltb (arrival_time xs k) 0 (omega arith)) refl

  before_count : (t : ℕ) → length (taken_before pl xs i t) ≡ before t (arrivals_in xs)
  before_count zero = sym (none_before (arrivals_in xs))
  before_count (suc t) =
      let a = length-append (taken_before pl xs i t) (taken_in pl xs i t (arrivals_in xs)) in
      omega (arith, a, before_count t, in_count t (arrivals_in xs))

  -- later arrivals in the list are not before t
  before_same : (t k n : ℕ) → k ≤ n → ((j : ℕ) → k ≤ j → j < n → t ≤ arrival_time xs j) → before t n ≡ before t k
  before_same t k zero l h = let e : k ≡ 0 = omega (arith, l) in rw e refl
  before_same t k (suc n) l h = go (λ b. before_same t k n b (λ j x y. h j x (omega (arith, y)))) (ℕ_discrete k (suc n))
    where
      go : (k ≤ n → before t n ≡ before t k) → Dec (k ≡ suc n) → before t (suc n) ≡ before t k
      go below (yes e) = rw e refl
      go below (no e) =
          rw (le-ltb (arrival_time xs n) t (h n (omega (arith, l, e)) (omega arith))) (omega (arith, below (omega (arith, l, e))))

  -- an accepted arrival's place among those of its time
  in_place : (t k n : ℕ) → its t k ≡ true → k < n
      → (length (taken_in pl xs i t k) < length (taken_in pl xs i t n)) × (get_or (taken_in pl xs i t n) (length (taken_in pl xs i t k)) 0 ≡ k)
  in_place t k zero y l = absurd (omega (arith, l))
  in_place t k (suc n) y l = go (λ h. in_place t k n y h) (ℕ_discrete k n)
    where
      place : ℕ
      place = length (taken_in pl xs i t k)

      go : (k < n → (place < length (taken_in pl xs i t n)) × (get_or (taken_in pl xs i t n) place 0 ≡ k)) → Dec (k ≡ n)
          → (place < length (taken_in pl xs i t (suc n))) × (get_or (taken_in pl xs i t (suc n)) place 0 ≡ k)
      go below (yes e) =
          subst (λ (m : ℕ). (place < length (taken_in pl xs i t (suc m))) × (get_or (taken_in pl xs i t (suc m)) place 0 ≡ k)) e
          (rw y (omega (arith, length-append (taken_in pl xs i t k) (k ∷ [])), get_or_at (taken_in pl xs i t k) k [] 0 place refl))
      go below (no e) =
          let b = below (omega (arith, l, e)) in (
            omega (arith, b.0, length-append (taken_in pl xs i t n) (cond (its t n) (n ∷ []) [])),
            get_or-append (taken_in pl xs i t n) (cond (its t n) (n ∷ []) []) 0 place b.0 ∙ b.1,
          )

  -- and among all of its task
  module _ (rising : Rising xs) (k : ℕ) (here : k < arrivals_in xs) (task : arrival_task xs k ≡ i) (taken : accepted pl xs k ≡ true) where
    abbrev t : ℕ
    t = arrival_time xs k

    place_is : length (taken_before pl xs i t) + length (taken_in pl xs i t k) ≡ before (suc t) k
    place_is =
        let a = before_same t k (arrivals_in xs) (omega (arith, here)) (λ j x y. rise xs rising k j x y) in
        omega (arith, before_count t, a, in_count t k)

    its_place : (stop : ℕ) → t < stop → (before (suc t) k < length (taken_before pl xs i stop)) × (get_or (taken_before pl xs i stop) (before (suc t) k) 0 ≡ k)
    its_place stop l =
        let y : its t k ≡ true = rw (eq-eqb t t refl, eq-eqb (arrival_task xs k) i task, taken) refl in
        let b = in_place t k (arrivals_in xs) y here in
        let a = length-append (taken_before pl xs i t) (taken_in pl xs i t (arrivals_in xs)) in
        let in_next : before (suc t) k < length (taken_before pl xs i (suc t)) = omega (arith, a, b.0, place_is) in (
          omega (arith, in_next, taken_length pl xs i (suc t) stop l),
          taken_same pl xs i (suc t) stop (before (suc t) k) l in_next
              ∙ rw (← place_is) (get_or-append-add (taken_before pl xs i t) (taken_in pl xs i t (arrivals_in xs)) (length (taken_in pl xs i t k)) 0 ∙ b.1),
        )

module _ (pl : Plan) (xs : List ℕ) (f : Fine pl xs) (stop : ℕ) (upto : stop ≤ clock_limit) where
  -- an arrival before the stop that is not said to be refused is accepted
  unsaid : (k : ℕ) → k < arrivals_in xs → arrival_time xs k < stop → eqb (counted (says_refused (suc k)) (events_of pl xs stop)) 0 ≡ accepted pl xs k
  unsaid k h l =
      let c = counted (says_refused (suc k)) (events_of pl xs stop) in
      let r = refused_once pl xs f k h stop upto l in
      by_cases (accepted pl xs k)
      (λ e. let z : c ≡ 0 = omega (arith, rw e at r) in rw (e, eq-eqb c 0 z) refl)
      (λ e. let z : c ≡ 1 = omega (arith, rw e at r) in rw (e, ne_eqb c 0 (λ w. omega (arith, w, z))) refl)

  -- so of the first n
  unsaid_count : (i t n : ℕ) → n ≤ arrivals_in xs → ((j : ℕ) → j < n → arrival_time xs j ≤ t) → t < stop
      → accepted_before xs (events_of pl xs stop) stop i n ≡ before pl xs i (suc t) n
  unsaid_count i t zero h b l = refl
  unsaid_count i t (suc k) h b l =
      let early = b k (omega arith) in
      rw (
        lt-ltb (arrival_time xs k) stop (omega (arith, early, l)),
        lt-ltb (arrival_time xs k) (suc t) (omega (arith, early)),
        unsaid k h (omega (arith, early, l)),
        unsaid_count i t k (omega (arith, h)) (λ j x. b j (omega (arith, x))) l,
      ) refl

  module _ (rising : Rising xs) (k : ℕ) (here : k < arrivals_in xs) (early : arrival_time xs k < stop) where
    abbrev es : List Event
    es = events_of pl xs stop

    abbrev i : ℕ
    i = arrival_task xs k

    abbrev n : ℕ
    n = run_number xs es stop k

    place : accepted_before xs es stop i k ≡ before pl xs i (suc (arrival_time xs k)) k
    place =
        unsaid_count i (arrival_time xs k) k (omega (arith, here)) (λ j l. rise xs rising j k (omega (arith, l)) here) early

    accepted_place : accepted pl xs k ≡ true
        → (accepted_before xs es stop i k < length (taken_before pl xs i stop)) × (get_or (taken_before pl xs i stop) (accepted_before xs es stop i k) 0 ≡ k)
    accepted_place y = rw place (its_place pl xs i rising k here refl y stop early)

    accepted_run : accepted pl xs k ≡ true → counted (says_finished i n) es + counted (says_unfinished i n) es ≡ 1
    accepted_run y =
        let j = i - 1 in
        let q : suc j ≡ i = omega (arith, f.from k here) in
        let r : counted (says_finished i n) es + counted (says_unfinished i n) es ≡ bit (leb n (length (taken_before pl xs i stop))) =
        subst (λ (x : ℕ). counted (says_finished x n) es + counted (says_unfinished x n) es ≡ bit (leb n (length (taken_before pl xs x stop)))) q
        (runs_once pl xs f j (omega (arith, q, f.to k here)) n (omega arith) stop upto) in
        r ∙ rw (le-leb n (length (taken_before pl xs i stop)) (accepted_place y).0) refl

    -- every arrival before the stop is refused once, or its run is finished or unfinished once
    pub arrival_once : (counted (says_refused (suc k)) es ≡ 1)
        ⊎ ((counted (says_refused (suc k)) es ≡ 0) × (counted (says_finished i n) es + counted (says_unfinished i n) es ≡ 1))
    arrival_once =
        let r = refused_once pl xs f k here stop upto early in
        by_cases (accepted pl xs k)
        (λ e. inr (omega (arith, rw e at r), accepted_run e))
        (λ e. inl (omega (arith, rw e at r)))

    -- and its run is that of its number: its task's accepted arrivals up to it are as many
    pub its_run : counted (says_refused (suc k)) es ≡ 0 → (n ≤ length (taken_before pl xs i stop)) × (get_or (taken_before pl xs i stop) (n - 1) 0 ≡ k)
    its_run z =
        let y : accepted pl xs k ≡ true = sym (unsaid k here early) ∙ eq-eqb (counted (says_refused (suc k)) es) 0 z in
        let b = accepted_place y in
        let e : n - 1 ≡ accepted_before xs es stop i k = omega arith in
        (b.0, rw e b.1)
