-- The refusals of writing in their order, as the code answers them.
use Rattle.std.specs.declared.option.Option.{Option}
use Rattle.std.specs.declared.option.Option.TheVariants.{Some, None}
use Rattle.std.specs.Option.{option_eq}
use Prim.Native.Nat.{ℕ, ◌*◌, ◌/◌}
use mathlib.Core.Path.{◌≡◌, refl, sym, ap, ◌∙◌}
use mathlib.Core.Bool.{true, false, not}
use mathlib.Core.List.{List}
use borrow.Author.Tests.{eq-eqb, ne_eqb, eqb-true}
use lib.Dec.{ltb, eqb}
use lib.ListN.{length}
use Rattle.lists.specs.Lists.{total}
use Rattle.lists.proofs.Tests.{by_cases}
use Rattle.units.specs.Refusals.{Refusal}
use Rattle.units.specs.Refusals.{refusal, taken, sheet_no, name_no, tick_no}
use Rattle.arith.specs.Period.{periods, common, period_of}
use Rattle.admission.specs.Weight.{weights}
use Rattle.admission.specs.Refusals.{◌or_else◌, input_test, weights_test}
use Rattle.admission.specs.Admission.{period_test, plan_refusal, refused_with, taken_with, admission_of}
use Rattle.admission.specs.Admission.{Admission}
use Rattle.admission.proofs.First.{decides, leaves}
use Rattle.admission.proofs.Kept.{Kept, kept, neither, failed}
use Rattle.admission.proofs.Admitting.{passed}
use Rattle.tick_length.specs.Ticks.{tick_in}
use Rattle.name_list.specs.Names.{twice, names_of, names_said}
use Rattle.sheet_writing.specs.Write.{tick_test, count_test, twice_test, write_refusal}

-- of three tests the first that refuses
first_of : (a b d : Refusal) → ((a or_else b) or_else d) ≡ (a or_else (b or_else d))
first_of a b d = by_cases (eqb a.no 0) (λ e. rw e refl) (λ e. rw (e, e) refl)

-- two that compare as equal are, and two that do not are not
pub same_some : (r : Option ℕ) (n : ℕ) → false ≡ not (option_eq eqb r (Some n)) → r ≡ Some n
same_some None n e = cc
same_some (Some k) n e = by_cases (eqb k n) (λ h. ap Some (eqb-true k n h)) (λ h. let z : false ≡ true = rw h at e in cc)

pub other_some : (r : Option ℕ) (n : ℕ) → true ≡ not (option_eq eqb r (Some n)) → r ≡ Some n → ⊥
other_some r n e h = let z : true ≡ false = rw (h, eq-eqb n n refl) at e in cc

-- the tests of the names
abbrev pub names_test : ℕ → List ℕ → Refusal
names_test tasks names = count_test tasks (names_said names) or_else twice_test (names_of names)

module _ (tasks : ℕ) (names : List ℕ) where
  -- a line is no name, or there is not one for each task
  pub no_names : (names_said names ≡ Some tasks → ⊥) → refusal sheet_no 0 ≡ names_test tasks names
  unfolding count_test
  no_names h = go (names_said names) refl
    where
      go : (n : Option ℕ) → names_said names ≡ n → refusal sheet_no 0 ≡ names_test tasks names
      go None e = rw e refl
      go (Some n) e = rw (e, ne_eqb n tasks (λ z. h (e ∙ ap Some z))) refl

  module _ (e : names_said names ≡ Some tasks) where
    -- one stands twice
    pub name_again_lem : twice (names_of names) ≡ true → refusal name_no 0 ≡ names_test tasks names
    unfolding count_test
    name_again_lem t = rw (e, eq-eqb tasks tasks refl, t) refl

    -- none does
    pub names_fine : twice (names_of names) ≡ false → taken ≡ names_test tasks names
    unfolding count_test
    names_fine t = rw (e, eq-eqb tasks tasks refl, t) refl

module _ (m : ℕ) (xs : List ℕ) where
  -- planning's last test
  abbrev W : Refusal
  W = weights_test m (common (periods xs)) (weights (common (periods xs)) xs)

  -- and the one before it
  abbrev P : Refusal
  P = period_test (period_of (periods xs))

  -- a table that planning does not refuse has no refusal, and names no task
  plan_none : (plan_refusal m xs).no ≡ 0 → plan_refusal m xs ≡ taken
  unfolding plan_refusal
  plan_none e =
      let p = passed m xs e in
      let t = ltb (m * common (periods xs)) (total (weights (common (periods xs)) xs)) in
      sym (leaves (input_test m xs) (input_test m xs) W (P or_else W) refl p.0 (leaves P P W W refl p.1 refl)) ∙ rw (failed t 5 0 taken p.2).0 refl

  -- admission answers planning's refusal
  plan_is : (admission_of m xs).refusal ≡ plan_refusal m xs
  unfolding admission_of taken_with refused_with
  plan_is = by_cases (eqb (plan_refusal m xs).no 0) (λ e. rw e (sym (plan_none (eqb-true _ 0 e)))) (λ e. rw e refl)

module _ (m : ℕ) (xs names : List ℕ) (tick : ℕ) where
  -- 19 is the first
  pub wrong_tick : tick_in tick ≡ false → refusal tick_no 0 ≡ write_refusal m xs names tick
  unfolding write_refusal
  wrong_tick e = rw e refl

  module _ (e : tick_in tick ≡ true) {r : Refusal} (f : r ≡ names_test (length xs / 2) names) where
    -- where the tick length is in range, the names and planning decide
    later : {q : Refusal} → q ≡ (names_test (length xs / 2) names or_else plan_refusal m xs) → q ≡ write_refusal m xs names tick
    unfolding write_refusal
    later g =
        leaves taken (tick_test tick) _ _ (rw e refl) refl
        (g ∙ first_of (count_test (length xs / 2) (names_said names)) (twice_test (names_of names)) (plan_refusal m xs))

    -- then 17 and 18
    pub wrong_names : (r.no ≡ 0 → ⊥) → r ≡ write_refusal m xs names tick
    wrong_names h = later (decides r _ (plan_refusal m xs) f h)

    -- then planning's
    pub planning : {a : Admission} → r.no ≡ 0 → a ≡ admission_of m xs → a.refusal ≡ write_refusal m xs names tick
    planning h g = later (leaves r _ _ _ f h (ap (λ (x : Admission). x.refusal) g ∙ plan_is m xs))

  module _ (none : (write_refusal m xs names tick).no ≡ 0) where
    -- what is not refused passes every test
    pub passes : ((tick_test tick).no ≡ 0) × ((count_test (length xs / 2) (names_said names)).no ≡ 0) × ((plan_refusal m xs).no ≡ 0)
    unfolding write_refusal
    passes =
        let a = neither (tick_test tick) (count_test (length xs / 2) (names_said names) or_else (twice_test (names_of names) or_else plan_refusal m xs)) none in
        let b = neither (count_test (length xs / 2) (names_said names)) (twice_test (names_of names) or_else plan_refusal m xs) a.1 in
        (a.0, b.0, (neither (twice_test (names_of names)) (plan_refusal m xs) b.1).1)

    -- the table is one that planning takes
    pub table_kept : Kept m xs
    table_kept = kept m xs (passed m xs passes.2).0
