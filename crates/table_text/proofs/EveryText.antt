-- Every text has one of the forms; so what is read is what the text says by its form, and nothing else.
use Rattle.std.specs.declared.option.Option.TheVariants.{Some, None}
use Prim.Native.Nat.{ℕ, zero, suc, ◌≤◌, ◌<◌}
use mathlib.Core.Path.{◌≡◌, refl, sym, ap, ◌∙◌}
use mathlib.Core.Logic.{◌↔◌, ◌⊎◌, inl, inr}
use mathlib.Core.List.{List, [], ◌∷◌, ◌++◌, append_assoc}
use native.Mathlib.Omega.{arith}
use lib.ListN.{length, get_or, drop, length-drop, drop_of_length-le}
use Rattle.scanning.specs.Number.{Number}
use Rattle.scanning.specs.Line.{Pair}
use Rattle.table_text.specs.Text.{Said, text_of, says, unreadable, cores_line, task_line}
use Rattle.table_text.specs.Grammar.{Small, cores_written, task_written, tasks_written, Tasks, Starts, LengthIn, NoTask, Says, table, length_out, first_line, later_line}
use Rattle.table_text.proofs.Tables.{task_kept}
use Rattle.table_text.proofs.Written.{cores_read, cores_none, task_read, task_none}
use Rattle.table_text.proofs.ByForm.{reads}
use Rattle.writing.proofs.Decimal.{either}

-- the lines of the tasks xs stand first in a text, then a rest
abbrev Lines : List ℕ → List ℕ → List ℕ → Type 0
Lines l xs rest = Tasks xs × (l ≡ tasks_written xs ++ rest)

-- none of them
no_lines : (l : List ℕ) → Lines l [] l
no_lines l = ((refl, λ i h. absurd (omega arith)), refl)

-- one more of them
more_lines : (c t : ℕ) (l later xs rest : List ℕ) → Small c → Small t → l ≡ task_written c t ++ later → Lines later xs rest → Lines l (c ∷ t ∷ xs) rest
more_lines c t l later xs rest h k e r = (
  (omega (arith, r.0.0), below),
  e ∙ ap (λ (z : List ℕ). task_written c t ++ z) r.1 ∙ sym (append_assoc (task_written c t) (tasks_written xs) rest),
)
  where
    below : (i : ℕ) → i < length (c ∷ t ∷ xs) → Small (get_or (c ∷ t ∷ xs) i 0)
    below zero p = h
    below (suc zero) p = k
    below (suc (suc i)) p = r.0.1 i (omega arith)

-- as many lines as there are stand first in a text
abbrev All : List ℕ → Type 0
All l = (xs : List ℕ) × (rest : List ℕ) × Lines l xs rest × ((rest ≡ []) ⊎ ((0 < length rest) × NoTask rest))

-- the first line, and those of what is left
next_line : (l : List ℕ) → 0 < length l → ((a : ℕ) → 0 < a → All (drop a l)) → (p : Pair) → task_line l 0 ≡ p → All l
next_line l h f None e = ([], l, no_lines l, inr (h, task_none l 0 e))
next_line l h f (Some (c, t, a)) e =
    let k = task_kept l 0 c t a e in
    let r = f a (omega (arith, k.2)) in
    (c ∷ t ∷ r.0, r.1, more_lines c t l (drop a l) r.0 r.1 k.0 k.1 (task_read l 0 c t a e) r.2, r.3)

all_lines : (f : ℕ) (l : List ℕ) → length l ≤ f → All l
all_lines zero l h = ([], l, no_lines l, inl (drop_of_length-le l h))
all_lines (suc f) l h =
    either 0 (length l)
    (λ k. next_line l k (λ a p. all_lines f (drop a l) (omega (arith, length-drop a l))) (task_line l 0) refl)
    (λ k. ([], l, no_lines l, inl (drop_of_length-le l k)))

module _ (s : List ℕ) where
  -- after the line of the core count
  of_lines : LengthIn s → (m a : ℕ) → cores_line s ≡ Some (m, a) → All (drop a s) → (x : Said) × Says s x
  of_lines h m a e (xs, rest, r, o) = go o
    where
      starts : Starts s m xs rest
      starts =
          let c = cores_read s m a e in
          record {
            cores = c.0;
            tasks = r.0;
            lines = c.1 ∙ ap (λ (z : List ℕ). cores_written m ++ z) r.1 ∙ sym (append_assoc (cores_written m) (tasks_written xs) rest);
          }

      go : (rest ≡ []) ⊎ ((0 < length rest) × NoTask rest) → (x : Said) × Says s x
      go (inl n) = (says m xs, table h (rw n at starts))
      go (inr p) = (unreadable _, later_line h starts p.0 p.1)

  -- a text of some length
  of_length : LengthIn s → (x : Said) × Says s x
  of_length h = go (cores_line s) refl
    where
      go : (n : Number) → cores_line s ≡ n → (x : Said) × Says s x
      go None e = (unreadable 1, first_line h (cores_none s e))
      go (Some (m, a)) e = of_lines h m a e (all_lines (length (drop a s)) (drop a s) (omega arith))

  -- any text
  some_form : (x : Said) × Says s x
  some_form =
      either 4096 (length s)
      (λ h. (unreadable 0, length_out (inr h)))
      (λ h. either 0 (length s) (λ k. of_length (k, h)) (λ k. (unreadable 0, length_out (inl (omega arith)))))

  -- what is read is what the text says by its form
  pub said_exactly : (x : Said) → (text_of s ≡ x) ↔ Says s x
  said_exactly x = (λ e. let f = some_form in rw (sym (reads s f.1) ∙ e) at f.1, λ h. reads s h)

  -- so no text says two things
  pub said_once : {x y : Said} → Says s x → Says s y → x ≡ y
  said_once g h = sym (reads s g) ∙ reads s h
