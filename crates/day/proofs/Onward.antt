-- What a jump stores: the runs that have the cores, and the spans that end.
use Prim.Native.Nat.{ℕ, zero, suc, ◌≤◌, ◌<◌}
use mathlib.Core.Path.{◌≡◌, sym, ◌∙◌}
use mathlib.Core.Bool.{true, false}
use mathlib.Core.List.{List, ◌++◌, append-nil, append_assoc}
use native.Mathlib.Omega.{arith}
use lib.Dec.{ltb}
use lib.ListN.{length, get_or}
use lib.Seq.{ext_get_or}
use borrow.Author.Tests.{ltb-true, ltb-false}
use Rattle.lists.proofs.Tests.{by_cases}
use Rattle.planning.specs.declared.Plan.{Plan}
use Rattle.instants.specs.declared.Seen.{Seen}
use Rattle.goings.specs.declared.Going.{Going}
use Rattle.instants.specs.Seen.{idle}
use Rattle.goings.specs.Going.{no_going}
use Rattle.instants.specs.Goings.{goings_of}
use Rattle.instants.proofs.GoingsAt.{goings_long, goings_past, goings_at}
use Rattle.day_rules.specs.Spans.{spans_end}
use Rattle.day.specs.Desk.{Desk, run_of, choice_at, number_of, looks_at, looked_at}
use Rattle.day.proofs.Looked.{choice_by_lem, number_by, looked_states, looked_works, looked_long, looked_at_lem, looked_past}

module _ (pl : Plan) (t : ℕ) (d : Desk) (ss : List Seen) (n : ℕ) (wide : n ≤ length d.going)
    (task : (p : ℕ) → p < n → (get_or ss p idle).task ≡ choice_at pl t d p)
    (run : (p : ℕ) → p < n → (get_or ss p idle).run ≡ number_of d (choice_at pl t d p)) where
  -- the runs that have the cores after a look at each
  pub goings_same : goings_of d.going ss t n ≡ (looked_at pl t n d).going
  goings_same =
      ext_get_or no_going (goings_of d.going ss t n) (looked_at pl t n d).going
      (goings_long d.going ss t n ∙ sym (looked_long pl t d n))
      (λ p l. by_cases (ltb p n) (λ e. here p (below p e)) (λ e. past p (above p e)))
    where
      below : (p : ℕ) → ltb p n ≡ true → p < n
      below p e = ltb-true p n e

      above : (p : ℕ) → ltb p n ≡ false → n ≤ p
      above p e = ltb-false p n e

      here : (p : ℕ) → p < n → get_or (goings_of d.going ss t n) p no_going ≡ run_of (looked_at pl t n d) p
      here p l =
          goings_at d.going ss t n p l wide
          ∙ rw (task p l, run p l) (sym (looked_at_lem pl t d n p l wide))

      past : (p : ℕ) → n ≤ p → get_or (goings_of d.going ss t n) p no_going ≡ run_of (looked_at pl t n d) p
      past p l = goings_past d.going ss t n p l ∙ sym (looked_past pl t d n p l)

-- the spans that end then
pub looked_said : (pl : Plan) (t : ℕ) (d : Desk) (n : ℕ) (hs : List Going) → ((p : ℕ) → p < n → (get_or hs p no_going).task ≡ choice_at pl t d p)
    → ((p : ℕ) → p < n → (get_or hs p no_going).run ≡ number_of d (choice_at pl t d p)) → (looked_at pl t n d).said ≡ d.said ++ spans_end d.going hs t n
unfolding looks_at
looked_said pl t d zero hs task run = sym (append-nil d.said)
looked_said pl t d (suc n) hs task run =
    let e = looked_at pl t n d in
    rw (
      choice_by_lem pl t e d n (looked_states pl t d n),
      number_by e d (choice_at pl t d n) (looked_works pl t d n),
      looked_past pl t d n n (omega arith),
      looked_said pl t d n hs (λ p l. task p (omega (arith, l))) (λ p l. run p (omega (arith, l))),
      task n (omega arith),
      run n (omega arith),
    )
    (append_assoc d.said (spans_end d.going hs t n) _)
