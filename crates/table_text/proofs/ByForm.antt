-- A text that says a table or names a line by its form is read so.
use Rattle.std.specs.declared.option.Option.TheVariants.{Some, None}
use Prim.Native.Nat.{ℕ, suc, ◌+◌, ◌-◌, ◌/◌, ◌≤◌, ◌<◌}
use mathlib.Core.Path.{◌≡◌, refl, sym, ap, ◌∙◌}
use mathlib.Core.Logic.{inl, inr}
use mathlib.Core.List.{List, [], ◌∷◌, ◌++◌, append_assoc, append-nil}
use native.Mathlib.Omega.{arith}
use lib.ListN.{length, drop, length-drop}
use Rattle.scanning.specs.Lines.{pair_end, unless_zero}
use Rattle.scanning.proofs.Sought.{Sought, first, later, here, ended, zero_told, other_told}
use Rattle.scanning.specs.Number.{Number}
use Rattle.scanning.specs.Line.{Pair}
use Rattle.table_text.specs.Text.{Said, text_of, says, unreadable, cores_line, task_line, task_end, numbers_from}
use Rattle.table_text.specs.Grammar.{cores_written, task_written, tasks_written, Tasks, Starts, LengthIn, NoCores, NoTask, Says, table, length_out, first_line, later_line}
use Rattle.table_text.proofs.Tables.{task_kept, numbers_done, numbers_later}
use Rattle.table_text.proofs.Says.{table_says, table_line, text_long, text_empty, text_first, text_table}
use Rattle.table_text.proofs.Written.{task_long, within, cores_written_lem, cores_read, task_written_lem, task_read}

-- the tasks after the first
later_tasks : (c t : ℕ) (xs : List ℕ) → Tasks (c ∷ t ∷ xs) → Tasks xs
later_tasks c t xs h = (omega (arith, h.0), λ i k. h.1 (suc (suc i)) (omega arith))

module _ (s : List ℕ) where
  -- the place after a line
  end_is : (at : ℕ) {c t a : ℕ} → task_line s at ≡ Some (c, t, a) → task_end s at ≡ a
  unfolding pair_end
  end_is at e = ap pair_end e

  -- a rest that starts with no line of a task
  end_none : (at : ℕ) → NoTask (drop at s) → task_end s at ≡ 0
  unfolding pair_end
  end_none at h = go (task_line s at) refl
    where
      go : (p : Pair) → task_line s at ≡ p → pair_end p ≡ 0
      go (Some (c, t, a)) e = let k = task_kept s at c t a e in absurd (h c t (drop a s) k.0 k.1 (task_read s at c t a e))
      go None e = refl

  -- after the lines of some tasks the first unreadable one is looked for in the rest
  lines_read : (xs rest : List ℕ) (from line at : ℕ) → Tasks xs → Sought (task_end s) (length s) 2 from line at → drop at s ≡ tasks_written xs ++ rest
      → (a : ℕ) × Sought (task_end s) (length s) 2 from (length xs / 2 + line) a × (drop a s ≡ rest)
  lines_read [] rest from line at h q e = (at, let z : 0 / 2 + line ≡ line = omega arith in rw z q, e)
  lines_read (c ∷ []) rest from line at h q e = absurd (omega (arith, h.0))
  lines_read (c ∷ t ∷ xs) rest from line at h q e =
      let f : drop at s ≡ task_written c t ++ (tasks_written xs ++ rest) = e ∙ append_assoc (task_written c t) (tasks_written xs) rest in
      let w = task_written_lem s at c t (tasks_written xs ++ rest) (h.1 0 (omega arith)) (h.1 1 (omega arith)) f in
      let n = later (task_end s) (length s) 2 from line at q (within s at f (task_long c t (tasks_written xs ++ rest))) (end_is at w.1)
      (omega (arith, (task_kept s at c t w.0 w.1).2)) in
      let r = lines_read xs rest from (line + 1) w.0 (later_tasks c t xs h) n w.2 in
      let z : length xs / 2 + (line + 1) ≡ suc (suc (length xs)) / 2 + line = omega arith in
      (r.0, rw z at r.1, r.2)

  -- the numbers of lines with no rest
  numbers_read : (xs : List ℕ) (f at : ℕ) → Tasks xs → length s ≤ f + at → drop at s ≡ tasks_written xs → numbers_from f s at ≡ xs
  numbers_read [] f at h k e = numbers_done s at f (omega (arith, length-drop at s, ap length e))
  numbers_read (c ∷ []) f at h k e = absurd (omega (arith, h.0))
  numbers_read (c ∷ t ∷ xs) f at h k e =
      let i = within s at e (task_long c t (tasks_written xs)) in
      let w = task_written_lem s at c t (tasks_written xs) (h.1 0 (omega arith)) (h.1 1 (omega arith)) e in
      let g : f ≡ suc (f - 1) = omega arith in
      let j : length s ≤ f - 1 + w.0 = omega (arith, (task_kept s at c t w.0 w.1).2) in
      numbers_later s at f (f - 1) g i w.1
      ∙ ap (λ (l : List ℕ). c ∷ t ∷ l) (numbers_read xs (f - 1) w.0 (later_tasks c t xs h) j w.2)

  module _ {m : ℕ} {xs rest : List ℕ} (h : Starts s m xs rest) where
    -- the line of the core count
    after_cores_lem : (a : ℕ) × (cores_line s ≡ Some (m, a)) × (drop a s ≡ tasks_written xs ++ rest)
    after_cores_lem = cores_written_lem s m (tasks_written xs ++ rest) h.cores (h.lines ∙ append_assoc (cores_written m) (tasks_written xs) rest)

    -- the search for the first unreadable line, at the rest
    at_rest : (a : ℕ) × Sought (task_end s) (length s) 2 after_cores_lem.0 (length xs / 2 + 2) a × (drop a s ≡ rest)
    at_rest =
        let c = after_cores_lem in
        lines_read xs rest c.0 2 c.0 h.tasks (first (task_end s) (length s) 2 c.0) c.2

    -- a rest that is no line names the line where it stands
    rest_line : length s ≤ 4096 → 0 < length s → 0 < length rest → NoTask rest → text_of s ≡ unreadable (length xs / 2 + 2)
    rest_line k l p n =
        let c = after_cores_lem in
        let r = at_rest in
        let b = here (task_end s) (length s) 2 c.0 (length xs / 2 + 2) r.0 r.1 (within s r.0 r.2 p)
        (end_none r.0 (rw r.2 n)) in
        text_table s k (λ z. omega arith) c.1 ∙ table_line s m c.0 (sym (ap unless_zero b ∙ other_told (λ z. omega arith)))

  -- with no rest the text says the table
  no_rest : {m : ℕ} {xs : List ℕ} → Starts s m xs [] → length s ≤ 4096 → 0 < length s → text_of s ≡ says m xs
  no_rest {m} {xs} h k l =
      let c = after_cores_lem h in
      let r = at_rest h in
      let b = ended (task_end s) (length s) 2 c.0 (length xs / 2 + 2) r.0 r.1 (omega (arith, length-drop r.0 s, ap length r.2)) in
      let n = numbers_read xs (length s) c.0 h.tasks (omega arith) (c.2 ∙ append-nil (tasks_written xs)) in
      text_table s k (λ z. omega arith) c.1 ∙ table_says s m c.0 (sym (zero_told b)) ∙ ap (says m) n

  -- the first line is not of the form
  no_first : LengthIn s → NoCores s → text_of s ≡ unreadable 1
  no_first l h = text_first s l.1 (λ z. omega (arith, l.0)) (go (cores_line s) refl)
    where
      go : (n : Number) → cores_line s ≡ n → n ≡ None
      go (Some (m, a)) e = let r = cores_read s m a e in absurd (h m (drop a s) r.0 r.1)
      go None e = refl

  -- what a text says by its form is what is read
  pub reads : {x : Said} → Says s x → text_of s ≡ x
  reads (table l h) = no_rest h l.1 l.0
  reads (length_out (inl e)) = text_empty s e
  reads (length_out (inr h)) = text_long s h
  reads (first_line l h) = no_first l h
  reads (later_line l h p n) = rest_line h l.1 l.0 p n
