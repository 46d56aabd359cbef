-- A line that is written at a place is read there, and one that is read is written there.
use Rattle.std.specs.declared.option.Option.TheVariants.{Some, None}
use Prim.Native.Nat.{ℕ, ◌+◌, ◌<◌}
use mathlib.Core.Path.{◌≡◌, sym, ap, ◌∙◌}
use mathlib.Core.Logic.{inl}
use mathlib.Core.List.{List, [], ◌∷◌, ◌++◌, append_assoc}
use native.Mathlib.Omega.{arith}
use lib.ListN.{length, drop, length-append, length-drop}
use Rattle.writing.specs.Ascii.{blank, newline}
use Rattle.writing.specs.Decimal.{decimal_of}
use Rattle.scanning.proofs.Fields.{no_value, no_pair}
use Rattle.scanning.proofs.WrittenLines.{field_written, field_read, pair_written, pair_read}
use Rattle.table_text.specs.Text.{number_bound, cores_line, task_line}
use Rattle.table_text.specs.Grammar.{Small, cores_written, task_written, NoCores, NoTask}

-- the line `M` and what follows it
cores_then : (m : ℕ) (rest : List ℕ) → cores_written m ++ rest ≡ decimal_of m ++ newline ∷ rest
cores_then m rest = append_assoc (decimal_of m) (newline ∷ []) rest

-- the line `C T` and what follows it
task_then : (c t : ℕ) (rest : List ℕ) → task_written c t ++ rest ≡ decimal_of c ++ blank ∷ (decimal_of t ++ newline ∷ rest)
task_then c t rest =
    append_assoc (decimal_of c ++ blank ∷ decimal_of t) (newline ∷ []) rest ∙ append_assoc (decimal_of c) (blank ∷ decimal_of t) (newline ∷ rest)

-- a line has bytes
pub task_long : (c t : ℕ) (rest : List ℕ) → 0 < length (task_written c t ++ rest)
task_long c t rest =
    rw (task_then c t rest) (omega (arith, length-append (decimal_of c) (blank ∷ (decimal_of t ++ newline ∷ rest))))

module _ (s : List ℕ) where
  -- a text that is left stands within the text
  pub within : (at : ℕ) {l : List ℕ} → drop at s ≡ l → 0 < length l → at < length s
  within at e h = omega (arith, length-drop at s, ap length e)

  -- the line `M`
  pub cores_written_lem : (m : ℕ) (rest : List ℕ) → Small m → s ≡ cores_written m ++ rest → (a : ℕ) × (cores_line s ≡ Some (m, a)) × (drop a s ≡ rest)
  cores_written_lem m rest h e =
      let f = field_written number_bound s newline 0 m rest h (inl (omega arith)) (e ∙ cores_then m rest) in
      (0 + length (decimal_of m) + 1, f.0, f.1)

  pub cores_read : (m a : ℕ) → cores_line s ≡ Some (m, a) → Small m × (s ≡ cores_written m ++ drop a s)
  cores_read m a e =
      let f = field_read number_bound s newline 0 m a (omega arith) (omega arith) e in
      (f.0, f.1 ∙ sym (cores_then m (drop a s)))

  pub cores_none : cores_line s ≡ None → NoCores s
  cores_none e m rest h f = no_value (sym e ∙ (cores_written_lem m rest h f).1)

  -- the line `C T`
  pub task_written_lem : (at c t : ℕ) (rest : List ℕ) → Small c → Small t → drop at s ≡ task_written c t ++ rest
      → (a : ℕ) × (task_line s at ≡ Some (c, t, a)) × (drop a s ≡ rest)
  task_written_lem at c t rest h k e = pair_written number_bound s at c t rest h k (e ∙ task_then c t rest)

  pub task_read : (at c t a : ℕ) → task_line s at ≡ Some (c, t, a) → drop at s ≡ task_written c t ++ drop a s
  task_read at c t a e = pair_read number_bound s at c t a (omega arith) e ∙ sym (task_then c t (drop a s))

  pub task_none : (at : ℕ) → task_line s at ≡ None → NoTask (drop at s)
  task_none at e c t rest h k f = no_pair (sym e ∙ (task_written_lem at c t rest h k f).1)
