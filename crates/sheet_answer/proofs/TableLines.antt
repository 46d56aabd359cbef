-- Writing a line for each task.
use Prim.Native.Nat.{ℕ, ◌+◌, ◌*◌, ◌≤◌, ◌<◌}
use mathlib.Core.Path.{◌≡◌, refl, sym, ap, ◌∙◌}
use mathlib.Core.List.{List, [], ◌∷◌, ◌++◌, append-nil, append_assoc}
use native.Mathlib.Omega.{arith}
use native.Mathlib.Numerals.{add-one}
use lib.ListN.{length, get_or, drop, drop_of_length-le}
use lib.Seq.{drop-cons}
use Rattle.planning.specs.declared.Line.{Line}
use Rattle.writing.specs.Wrote.{Wrote}
use Rattle.writing.proofs.Wrote.{none, then, recast}
use Rattle.table_text.specs.Grammar.{task_written, tasks_written}
use Rattle.sheet_answer.specs.Answers.{numbers_of}

-- while the lines are written: those of i tasks are, and with those that are left they make up the whole
pub record Tabling (ls : List Line) (at : ℕ) (before now : List ℕ) (i end : ℕ) : Type 0 where
  pub done : List ℕ
  pub wrote : Wrote before at done now end
  pub left : done ++ tasks_written (numbers_of (drop i ls)) ≡ tasks_written (numbers_of ls)
  pub short : end ≤ at + 42 * i

-- at first none is
pub begun : (ls : List Line) (at : ℕ) (l : List ℕ) → Tabling ls at l l 0 at
begun ls at l = record { done = []; wrote = none l at; left = refl; short = omega arith }

module _ {ls : List Line} {at : ℕ} {before now : List ℕ} {i end : ℕ} (h : Tabling ls at before now i end) where
  -- one more
  pub onward : {l : List ℕ} {k : ℕ} (d : Line) → i < length ls → Wrote now end (task_written (get_or ls i d).cost.0 (get_or ls i d).period.0) l k
      → k ≤ end + 42 → Tabling ls at before l (i + 1) k
  onward {l} {k} d p w b =
      let line = get_or ls i d in
      let r : drop i ls ≡ line ∷ drop (i + 1) ls = drop-cons ls i d p ∙ ap (λ (j : ℕ). line ∷ drop j ls) (sym (add-one i)) in
      let task = task_written line.cost.0 line.period.0 in
      record {
        done = h.done ++ task;
        wrote = then h.wrote w;
        left = append_assoc h.done task (tasks_written (numbers_of (drop (i + 1) ls)))
            ∙ ap (λ (x : List Line). h.done ++ tasks_written (numbers_of x)) (sym r) ∙ h.left;
        short = omega (arith, h.short, b);
      }

  -- with no more tasks all are
  pub ended : length ls ≤ i → Wrote before at (tasks_written (numbers_of ls)) now end
  ended p =
      let e : drop i ls ≡ [] = drop_of_length-le ls p in
      recast (sym (append-nil h.done) ∙ ap (λ (x : List Line). h.done ++ tasks_written (numbers_of x)) (sym e) ∙ h.left) h.wrote
