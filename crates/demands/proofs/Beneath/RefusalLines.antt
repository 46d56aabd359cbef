-- A refusal's line: its words, and that it says its refusal.
use Prim.Native.Nat.{ℕ, ◌≤◌, ◌<◌}
use mathlib.Core.Path.{◌≡◌, refl, sym, ap, ap₂, ◌∙◌, subst⁻¹}
use mathlib.Core.Bool.{true, false}
use mathlib.Core.List.{List, ◌++◌, append-nil, append_assoc, head-eq_of_cons-eq}
use native.Mathlib.Omega.{arith}
use lib.Dec.{eqb}
use borrow.Author.Tests.{le-leb, lt-leb, eqb-true, eqb-false}
use Rattle.lists.proofs.Tests.{by_cases}
use Rattle.units.specs.Refusals.{refusal}
use Rattle.units.specs.Refusals.{Refusal}
use Rattle.writing.specs.Ascii.{ascii}
use Rattle.writing.specs.Decimal.{decimal_f, decimal_of}
use Rattle.writing.specs.Field.{field, line_end}
use Rattle.writing.specs.Refused.{of_arrival, named_text, refusal_text}
use Rattle.writing.proofs.RefusalTexts.{names_line, names_none, names_arrival, names_task}
use Rattle.listing.proofs.Digits.{Stops, field_cut}

-- an unreadable text's
pub with_line_lem : (l : ℕ) → refusal_text (refusal 16 l) ≡ ascii "refused 16 line " ++ decimal_of l ++ ascii "\n"
unfolding refusal_text named_text decimal_of decimal_f
with_line_lem l = refl

-- a number alone
pub alone : (n : ℕ) → (n ≡ 16 → ⊥) → refusal_text (refusal n 0) ≡ ascii "refused " ++ decimal_of n ++ ascii "\n"
unfolding refusal_text
alone n other = rw (← names_none (refusal n 0) other refl) (ap (λ (s : List ℕ). s ++ line_end) (append-nil (field "refused " n)))

-- a number and the arrival that it names
pub with_arrival : (n i : ℕ) → 25 ≤ n → n ≤ 27 → 0 < i
    → refusal_text (refusal n i) ≡ ascii "refused " ++ decimal_of n ++ ascii " arrival " ++ decimal_of i ++ ascii "\n"
unfolding refusal_text
with_arrival n i from to some =
    let h : of_arrival n ≡ true = rw (le-leb 25 n from, le-leb n 27 to) refl in
    rw (← names_arrival (refusal n i) (λ z. omega arith) (λ z. omega arith) h)
    (ap (λ (s : List ℕ). s ++ line_end) (sym (append_assoc (field "refused " n) (ascii " arrival ") (decimal_of i))))

-- a number and the task that it names
pub with_task : (n i : ℕ) → n < 16 → 0 < i → refusal_text (refusal n i) ≡ ascii "refused " ++ decimal_of n ++ ascii " task " ++ decimal_of i ++ ascii "\n"
unfolding refusal_text
with_task n i low some =
    let h : of_arrival n ≡ false = rw (lt-leb 25 n (omega arith)) refl in
    rw (← names_task (refusal n i) (λ z. omega arith) (λ z. omega arith) h)
    (ap (λ (s : List ℕ). s ++ line_end) (sym (append_assoc (field "refused " n) (ascii " task ") (decimal_of i))))

-- what stands after a refusal's number
abbrev end : Refusal → List ℕ
end r = named_text r ++ line_end

-- its four forms
data Form (r : Refusal) : Type 0 where
  a_line : r.no ≡ 16 → end r ≡ field " line " r.named ++ line_end → Form r
  nothing : (r.no ≡ 16 → ⊥) → r.named ≡ 0 → end r ≡ line_end → Form r
  an_arrival : (r.no ≡ 16 → ⊥) → of_arrival r.no ≡ true → end r ≡ field " arrival " r.named ++ line_end → Form r
  a_task : (r.no ≡ 16 → ⊥) → of_arrival r.no ≡ false → end r ≡ field " task " r.named ++ line_end → Form r

form : (r : Refusal) → Form r
form r =
    by_cases (eqb r.no 16)
    (λ e. let h = eqb-true r.no 16 e in a_line h (join (names_line r h)))
    (λ e. let h = eqb-false r.no 16 e in by_cases (eqb r.named 0)
    (λ f. let k = eqb-true r.named 0 f in nothing h k (join (names_none r h k)))
    (λ f. let k = eqb-false r.named 0 f in by_cases (of_arrival r.no)
    (λ g. an_arrival h g (join (names_arrival r h k g)))
    (λ g. a_task h g (join (names_task r h k g)))))
  where
    join : {s : List ℕ} → s ≡ named_text r → end r ≡ s ++ line_end
    join e = ap (λ (x : List ℕ). x ++ line_end) (sym e)

-- it starts with no digit
end_stops : (r : Refusal) → Form r → Stops (end r)
end_stops r (a_line h e) = subst⁻¹ Stops e refl
end_stops r (nothing h k e) = subst⁻¹ Stops e refl
end_stops r (an_arrival h k e) = subst⁻¹ Stops e refl
end_stops r (a_task h k e) = subst⁻¹ Stops e refl

-- refusals of one number both name an arrival, or both a task
no_both : {A : Type 0} (m n : ℕ) → m ≡ n → of_arrival m ≡ true → of_arrival n ≡ false → A
no_both m n e f g = let z : true ≡ false = sym f ∙ ap of_arrival e ∙ g in let y : ◌≡◌ {A = ℕ} 0 1 = cc in absurd (omega arith)

-- what is named is told from it
named_told : (a b : Refusal) → a.no ≡ b.no → end a ≡ end b → Form a → Form b → a.named ≡ b.named
named_told a b n e (a_line h x) (a_line k y) = (field_cut " line " a.named b.named line_end line_end refl refl (sym x ∙ e ∙ y)).0
named_told a b n e (nothing h z x) (nothing k w y) = z ∙ sym w
named_told a b n e (an_arrival h p x) (an_arrival k q y) = (field_cut " arrival " a.named b.named line_end line_end refl refl (sym x ∙ e ∙ y)).0
named_told a b n e (a_task h p x) (a_task k q y) = (field_cut " task " a.named b.named line_end line_end refl refl (sym x ∙ e ∙ y)).0
named_told a b n e (an_arrival h p x) (a_task k q y) = no_both a.no b.no n p q
named_told a b n e (a_task h p x) (an_arrival k q y) = no_both b.no a.no (sym n) q p
named_told a b n e (nothing h z x) (an_arrival k q y) = absurd (omega (arith, head-eq_of_cons-eq (sym x ∙ e ∙ y)))
named_told a b n e (an_arrival h p x) (nothing k w y) = absurd (omega (arith, head-eq_of_cons-eq (sym x ∙ e ∙ y)))
named_told a b n e (nothing h z x) (a_task k q y) = absurd (omega (arith, head-eq_of_cons-eq (sym x ∙ e ∙ y)))
named_told a b n e (a_task h p x) (nothing k w y) = absurd (omega (arith, head-eq_of_cons-eq (sym x ∙ e ∙ y)))
named_told a b n e (a_line h x) (nothing k w y) = absurd (k (sym n ∙ h))
named_told a b n e (a_line h x) (an_arrival k q y) = absurd (k (sym n ∙ h))
named_told a b n e (a_line h x) (a_task k q y) = absurd (k (sym n ∙ h))
named_told a b n e (nothing h z x) (a_line k y) = absurd (h (n ∙ k))
named_told a b n e (an_arrival h p x) (a_line k y) = absurd (h (n ∙ k))
named_told a b n e (a_task h p x) (a_line k y) = absurd (h (n ∙ k))

-- a refusal's line says its refusal
pub line_says : (a b : Refusal) → refusal_text a ≡ refusal_text b → a ≡ b
unfolding refusal_text
line_says a b e =
    let f = field "refused " a.no in
    let g = field "refused " b.no in
    let parts = sym (append_assoc f (named_text a) line_end) ∙ e ∙ append_assoc g (named_text b) line_end in
    let cut = field_cut "refused " a.no b.no (end a) (end b) (end_stops a (form a)) (end_stops b (form b)) parts in
    ap₂ refusal cut.0 (named_told a b cut.0 cut.1 (form a) (form b))
