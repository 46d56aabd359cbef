-- Every table has one of the answers; so what is answered is what the words of document 02 give, and nothing else.
use Rattle.std.specs.declared.option.Option.TheVariants.{Some, None}
use Prim.Native.Nat.{ℕ, ◌/◌, ◌≤◌, ◌<◌}
use mathlib.Core.Path.{◌≡◌, refl, sym, ap, ◌∙◌}
use mathlib.Core.Bool.{true, false}
use mathlib.Core.Logic.{◌↔◌}
use mathlib.Core.List.{List, ◌++◌}
use native.Mathlib.Omega.{arith}
use borrow.Author.Tests.{lt-ltb, le-leb, lt-leb, eq-eqb, ne_eqb, leb-true, leb-false, eqb-true, eqb-false}
use lib.Dec.{leb, eqb}
use lib.ListN.{length, drop}
use Rattle.lists.specs.Lists.{bit}
use Rattle.lists.proofs.Tests.{by_cases, and_true}
use Rattle.units.specs.Refusals.{Refusal}
use Rattle.units.specs.Refusals.{refusal}
use Rattle.admission.specs.Admission.{plan_refusal}
use Rattle.admission.proofs.Exactly.{answers}
use Rattle.tick_length.specs.Ticks.{tick_in, tick_limit}
use Rattle.name_list.specs.Names.{twice, names_of, bad_name, names_said}
use Rattle.name_list.proofs.Lists.{names_back, names_only}
use Rattle.name_list.proofs.Repeated.{twice_exactly}
use Rattle.sheet_text.specs.Grammar.{TickIn, Distinct, sheet_written}
use Rattle.sheet_text.proofs.Says.{tick_range}
use Rattle.sheet_writing.specs.Write.{jobs_with, write_refusal, sheet_for, unwritten, written_whole, fitted, fitted_after, written_of, written_after}
use Rattle.sheet_writing.specs.Write.{Written}
use Rattle.sheet_writing.proofs.Refused as Refused
use Rattle.sheet_writing.specs.Given.{Named, Fine, Given, refused_19, refused_17, refused_18, planning, refused_14, written}

-- a tick length in range passes its test
in_range : (tick : ℕ) → TickIn tick → tick_in tick ≡ true
in_range tick h = and_true _ _ (lt-ltb 0 tick h.0) (le-leb tick tick_limit h.1)

-- another does not
out_of_range : (tick : ℕ) → (TickIn tick → ⊥) → tick_in tick ≡ false
out_of_range tick h = by_cases (tick_in tick) (λ e. absurd (h (tick_range tick e))) (λ e. e)

-- no test gives both answers
not_both : {A : Type 0} → true ≡ false → A
not_both e = absurd (omega (arith, ap bit e))

-- names that are distinct pass the test for one that stands twice
not_twice : (ns : List (List ℕ)) → Distinct ns → twice ns ≡ false
not_twice ns h = by_cases (twice ns) (λ e. let r = (twice_exactly ns).0 e in absurd (h r.0 r.1 r.2 r.3 r.4)) (λ e. e)

-- and where the test finds none, they are
distinct : (ns : List (List ℕ)) → twice ns ≡ false → Distinct ns
distinct ns e i j h k p = not_both (sym ((twice_exactly ns).1 (i, j, h, k, p)) ∙ e)

module _ (names : List ℕ) where
  -- lines that are names are counted
  counted : bad_name names ≡ 0 → names_said names ≡ Some (length (names_of names))
  unfolding names_said
  counted e = rw (eq-eqb (bad_name names) 0 e) refl

  -- a line that is none is told
  uncounted : (bad_name names ≡ 0 → ⊥) → names_said names ≡ None
  unfolding names_said
  uncounted h = rw (ne_eqb (bad_name names) 0 h) refl

-- so many names are no others
same_count : {n k : ℕ} → Some n ≡ Some k → n ≡ k
same_count e = cc

none_some : {n : ℕ} → None ≡ Some n → ⊥
none_some e = cc

module _ {xs names : List ℕ} {ns : List (List ℕ)} (h : Named xs names ns) where
  -- each line is a name, and the names are read back
  back : (bad_name names ≡ 0) × (names_of names ≡ ns)
  back = rw h.text (names_back ns h.each)

  -- so the sheet has those
  pub named_sheet : (tick : ℕ) → sheet_for xs names tick ≡ sheet_written tick (jobs_with tick ns xs)
  unfolding sheet_for
  named_sheet tick = ap (λ (l : List (List ℕ)). sheet_written tick (jobs_with tick l xs)) back.1

  -- and they are as many as the tasks
  named_count : names_said names ≡ Some (length xs / 2)
  named_count = counted names back.0 ∙ ap (λ (l : List (List ℕ)). Some (length l)) back.1 ∙ ap Some h.count

module _ (m : ℕ) (xs names : List ℕ) (tick : ℕ) where
  -- the refusal of writing before 14
  abbrev R : Refusal
  R = write_refusal m xs names tick

  -- 17, where the names are not so many names
  not_named : TickIn tick → ((ns : List (List ℕ)) → Named xs names ns → ⊥) → R ≡ refusal 17 0
  not_named t h =
      by_cases (eqb (bad_name names) 0)
      (λ b. let z = eqb-true (bad_name names) 0 b in let o = names_only names z in
      sym (Refused.wrong_names m xs names tick (in_range tick t)
      (Refused.no_names (length xs / 2) names
      (λ c. h (names_of names) (record { text = o.1; each = o.0; count = same_count (sym (counted names z) ∙ c) })))
      (λ q. omega arith)))
      (λ b. sym (Refused.wrong_names m xs names tick (in_range tick t)
      (Refused.no_names (length xs / 2) names (λ c. none_some (sym (uncounted names (eqb-false (bad_name names) 0 b)) ∙ c))) (λ q. omega arith)))

  module _ {ns : List (List ℕ)} (t : TickIn tick) (h : Named xs names ns) where
    -- 18, where one stands twice
    repeated : twice ns ≡ true → R ≡ refusal 18 0
    repeated e =
        sym (Refused.wrong_names m xs names tick (in_range tick t)
        (Refused.name_again_lem (length xs / 2) names (named_count h) (ap twice (back h).1 ∙ e)) (λ q. omega arith))

  -- then planning's
  pub fine_refusal : {ns : List (List ℕ)} → Fine xs names tick ns → R ≡ plan_refusal m xs
  fine_refusal {ns} h =
      sym (Refused.planning m xs names tick (in_range tick h.tick_in)
      (Refused.names_fine (length xs / 2) names (named_count h.named) (ap twice (back h.named).1 ∙ not_twice ns h.distinct)) refl refl)
      ∙ answers m xs

  module _ (room : ℕ) where
    -- what is answered
    abbrev answer : Written
    answer = written_of m xs names tick room

    -- a refusal before 14
    early : {r : Refusal} → R ≡ r → (r.no ≡ 0 → ⊥) → answer ≡ unwritten r
    unfolding written_of
    early e h = rw (e, ne_eqb _ 0 h) refl

    module _ {ns : List (List ℕ)} (h : Fine xs names tick ns) (p : (plan_refusal m xs).no ≡ 0) where
      -- the sheet's bytes
      abbrev text : List ℕ
      text = sheet_written tick (jobs_with tick ns xs)

      -- 14
      short : room < length text → answer ≡ unwritten (refusal 14 0)
      unfolding written_of fitted
      short k = rw (fine_refusal h, p, named_sheet h.named tick, lt-leb (length text) room k) refl

      -- the whole sheet
      whole : length text ≤ room → answer ≡ written_whole (length text)
      unfolding written_of fitted
      whole k = rw (fine_refusal h, p, named_sheet h.named tick, le-leb (length text) room k) refl

    -- what the words give is answered
    gives : {w : Written} → Given m xs names tick room w → answer ≡ w
    gives (refused_19 h) = early (sym (Refused.wrong_tick m xs names tick (out_of_range tick h))) (λ q. omega arith)
    gives (refused_17 t h) = early (not_named t h) (λ q. omega arith)
    gives (refused_18 {ns} t h d) = early (repeated t h ((twice_exactly ns).1 d)) (λ q. omega arith)
    gives (planning h p) = early (fine_refusal h) p
    gives (refused_14 h p k) = short h p k
    gives (written h p k) = whole h p k

    -- of what passes 19, 17 and 18
    fine_given : {ns : List (List ℕ)} → Fine xs names tick ns → Given m xs names tick room answer
    fine_given {ns} h =
        let text = sheet_written tick (jobs_with tick ns xs) in
        by_cases (eqb (plan_refusal m xs).no 0)
        (λ e. let p = eqb-true (plan_refusal m xs).no 0 e in
        by_cases (leb (length text) room)
        (λ f. let k = leb-true (length text) room f in rw (whole h p k) (written h p k))
        (λ f. let k = leb-false (length text) room f in rw (short h p k) (refused_14 h p k)))
        (λ e. let p = eqb-false (plan_refusal m xs).no 0 e in rw (early (fine_refusal h) p) (planning h p))

    -- of what passes 19 and 17
    named_given : {ns : List (List ℕ)} → TickIn tick → Named xs names ns → Given m xs names tick room answer
    named_given {ns} t h =
        by_cases (twice ns)
        (λ e. rw (early (repeated t h e) (λ q. omega arith)) (refused_18 t h ((twice_exactly ns).0 e)))
        (λ e. fine_given (record { tick_in = t; named = h; distinct = distinct ns e }))

    -- of what passes 19
    tick_given : TickIn tick → Given m xs names tick room answer
    tick_given t =
        by_cases (eqb (bad_name names) 0)
        (λ b. let o = names_only names (eqb-true (bad_name names) 0 b) in
        by_cases (eqb (length (names_of names)) (length xs / 2))
        (λ c. named_given {ns = names_of names} t (record { text = o.1; each = o.0; count = eqb-true _ _ c }))
        (λ c. unnamed (λ ns h. eqb-false (length (names_of names)) (length xs / 2) c (ap length (back h).1 ∙ h.count))))
        (λ b. unnamed (λ ns h. eqb-false (bad_name names) 0 b (back h).0))
      where
        unnamed : ((ns : List (List ℕ)) → Named xs names ns → ⊥) → Given m xs names tick room answer
        unnamed h = rw (early (not_named t h) (λ q. omega arith)) (refused_17 t h)

    -- every table has one of the answers
    pub given_so : Given m xs names tick room answer
    given_so =
        by_cases (tick_in tick)
        (λ e. tick_given (tick_range tick e))
        (λ e. rw (early (sym (Refused.wrong_tick m xs names tick e)) (λ q. omega arith)) (refused_19 (λ t. not_both (sym (in_range tick t) ∙ e))))

    -- so what is answered is what the words give
    pub given_exactly : (w : Written) → Given m xs names tick room w ↔ (answer ≡ w)
    given_exactly w = (gives, λ e. rw e at given_so)

  module _ (buf : List ℕ) where
    -- the answer for a lent buffer
    abbrev lent : Written
    lent = written_of m xs names tick (length buf)

    -- what is refused changes no byte
    pub buffer_kept : (lent.refusal.no ≡ 0 → ⊥) → written_after m xs names tick buf ≡ buf
    unfolding written_of written_after fitted fitted_after
    buffer_kept h =
        by_cases (eqb R.no 0)
        (λ e. by_cases (leb (length (sheet_for xs names tick)) (length buf)) (λ f. absurd (h (rw (e, f) refl))) (λ f. rw (e, f) refl))
        (λ e. rw e refl)

    -- else the sheet stands at its start, and past the sheet the bytes are as they were
    pub buffer_after_lem : {ns : List (List ℕ)} → Fine xs names tick ns → lent.refusal.no ≡ 0
        → written_after m xs names tick buf
        ≡ sheet_written tick (jobs_with tick ns xs) ++ drop (length (sheet_written tick (jobs_with tick ns xs))) buf
    unfolding written_of written_after fitted fitted_after
    buffer_after_lem {ns} n h =
        by_cases (eqb R.no 0)
        (λ e. by_cases (leb (length (sheet_for xs names tick)) (length buf))
        (λ f. rw (e, f) (ap (λ (l : List ℕ). l ++ drop (length l) buf) (named_sheet n.named tick)))
        (λ f. absurd (omega (arith, rw (e, f) at h))))
        (λ e. absurd (eqb-false R.no 0 e (rw e at h)))
