-- Writing a line for each task's name.
use Rattle.std.specs.declared.option.Option.TheVariants.{Some, None}
use Prim.Native.Nat.{ℕ, ◌+◌, ◌-◌, ◌*◌, ◌≤◌}
use mathlib.Core.Path.{◌≡◌, refl, sym, ap, ◌∙◌}
use mathlib.Core.List.{List, [], ◌∷◌, ◌++◌, append-nil, append_assoc}
use native.Mathlib.Omega.{arith}
use lib.ListN.{length, take, drop}
use Rattle.writing.specs.Ascii.{blank, newline}
use Rattle.writing.specs.Field.{field, line_end}
use Rattle.writing.specs.Wrote.{Wrote}
use Rattle.writing.proofs.Wrote.{none, then, recast}
use Rattle.scanning.specs.Lines.{unless_zero}
use Rattle.names.specs.Name.{name_end}
use Rattle.names.proofs.Parts.{parted}
use Rattle.name_list.specs.Names.{names_of}
use Rattle.name_list.proofs.Lines.{names_here, names_none, names_later}
use Rattle.sheet_answer.specs.Answers.{name_lines}

-- a task's line
abbrev name_line : ℕ → List ℕ → List ℕ
name_line task n = (field "name " task ++ blank ∷ n) ++ line_end

-- its four parts, one after the other
pub line_wrote : (task : ℕ) (n : List ℕ) {a b c d e : List ℕ} {h i j k l : ℕ} → Wrote a h (field "name " task) b i → Wrote b i (blank ∷ []) c j
    → Wrote c j n d k → Wrote d k line_end e l → Wrote a h (name_line task n) e l
line_wrote task n w x y z = recast (ap (λ (t : List ℕ). t ++ line_end) (append_assoc (field "name " task) (blank ∷ []) n)) (then (then (then w x) y) z)

-- while the lines are written: those of the names before a place are, and with those that are left they make up the whole
pub record Naming (s : List ℕ) (at : ℕ) (before now : List ℕ) (place task end : ℕ) : Type 0 where
  pub done : List ℕ
  pub wrote : Wrote before at done now end
  pub left : done ++ name_lines task (names_here s place) ≡ name_lines 1 (names_of s)
  pub within : place ≤ length s
  pub counted : task ≤ place + 1
  pub short : end ≤ at + 14 * place

-- at first none is
pub begun : (s : List ℕ) (at : ℕ) (l : List ℕ) → Naming s at l l 0 1 at
begun s at l = record { done = []; wrote = none l at; left = refl; within = omega arith; counted = omega arith; short = omega arith }

module _ {s : List ℕ} {at : ℕ} {before now : List ℕ} {place task end : ℕ} (h : Naming s at before now place task end) where
  -- one more
  pub onward : {l : List ℕ} {next k : ℕ} → Some next ≡ unless_zero (name_end s newline place)
      → Wrote now end (name_line task (take (next - 1 - place) (drop place s))) l k → k ≤ end + 27 + length (take (next - 1 - place) (drop place s))
      → Naming s at before l next (task + 1) k
  onward {l} {next} {k} e w b =
      let part = take (next - 1 - place) (drop place s) in
      let p = parted s newline place (omega arith) e in
      let n : name_line task part ++ name_lines (task + 1) (names_here s next) ≡ name_lines task (names_here s place) =
      ap (λ (x : List ℕ). name_line task x ++ name_lines (task + 1) (names_here s next)) p.is
      ∙ ap (name_lines task) (sym (names_later s place e)) in
      record {
        done = h.done ++ name_line task part;
        wrote = then h.wrote w;
        left = append_assoc h.done (name_line task part) (name_lines (task + 1) (names_here s next)) ∙ ap (λ (x : List ℕ). h.done ++ x) n ∙ h.left;
        within = p.ends;
        counted = omega (arith, h.counted, p.far);
        short = omega (arith, h.short, b, p.ahead, p.far);
      }

  -- with no more names all are
  pub all : None ≡ unless_zero (name_end s newline place) → Wrote before at (name_lines 1 (names_of s)) now end
  all e =
      let z = names_none s place e in
      recast (sym (append-nil h.done) ∙ ap (λ (ns : List (List ℕ)). h.done ++ name_lines task ns) (sym z) ∙ h.left) h.wrote
