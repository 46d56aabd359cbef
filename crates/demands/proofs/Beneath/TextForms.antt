-- Each thing that a text can say, with the form that says it.
use Prim.Native.Nat.{ℕ, ◌+◌, ◌*◌, ◌/◌, ◌%◌, ◌≤◌, ◌<◌}
use mathlib.Core.Path.{◌≡◌, refl, sym, ap, ◌∙◌}
use mathlib.Core.Logic.{◌↔◌, ◌⊎◌}
use mathlib.Core.List.{List, [], ◌∷◌, ◌++◌, append-nil, append_assoc}
use native.Mathlib.Omega.{arith}
use lib.ListN.{length, get_or, length-append}
use Rattle.writing.specs.Ascii.{newline}
use Rattle.writing.specs.Decimal.{decimal_of}
use Rattle.table_text.specs.Text.{Said, says, unreadable, text_of}
use Rattle.table_text.specs.Grammar.{cores_written, tasks_written, Starts, NoCores, NoTask, Says, table, length_out, first_line, later_line}
use Rattle.table_text.proofs.ByForm.{reads}
use Rattle.table_text.proofs.EveryText.{said_exactly}

-- a text that starts with the line of a core count is not empty
cores_long : (s : List ℕ) (m : ℕ) (rest : List ℕ) → s ≡ cores_written m ++ rest → 0 < length s
cores_long s m rest e = omega (arith, ap length e, length-append (cores_written m) rest, length-append (decimal_of m) (newline ∷ []))

-- a text says a table or names a line
no_table : {A : Type 0} {m line : ℕ} {xs : List ℕ} → says m xs ≡ unreadable line → A
no_table e = let z : ◌≡◌ {A = ℕ} 0 1 = cc in absurd (omega arith)

-- two lines
no_line : {A : Type 0} (j k : ℕ) → unreadable j ≡ unreadable k → (j ≡ k → ⊥) → A
no_line j k e n = let z : j ≡ k = cc in absurd (n z)

-- the text of a core count and a table: their lines, whole tasks, each number below 2^32, at most 4,096 bytes
abbrev TheText : List ℕ → ℕ → List ℕ → Type 0
TheText s m xs =
    (s ≡ cores_written m ++ tasks_written xs)
    × (m < 4294967296)
    × (length xs % 2 ≡ 0)
    × ((i : ℕ) → i < length xs → get_or xs i 0 < 4294967296)
    × (length s ≤ 4096)

-- the lines of a core count and of k tasks, and then a rest that starts with no line of a task
abbrev UpTo : List ℕ → ℕ → Type 0
UpTo s k = (m : ℕ) × (xs : List ℕ) × (rest : List ℕ) × Starts s m xs rest × (length xs ≡ 2 * k) × (0 < length rest) × NoTask rest

module _ (s : List ℕ) where
  -- a core count and a table are said exactly by their text
  pub says_table_lem : (m : ℕ) (xs : List ℕ) → (text_of s ≡ says m xs) ↔ TheText s m xs
  says_table_lem m xs = (λ e. of ((said_exactly s (says m xs)).0 e), back)
    where
      of : Says s (says m xs) → TheText s m xs
      of (table l h) = (h.lines ∙ append-nil (cores_written m ++ tasks_written xs), h.cores, h.tasks.0, h.tasks.1, l.1)

      back : TheText s m xs → text_of s ≡ says m xs
      back (e, c, w, n, l) =
          reads s (table (cores_long s m (tasks_written xs) e, l)
          (record { cores = c; tasks = (w, n); lines = e ∙ sym (append-nil (cores_written m ++ tasks_written xs)) }))

  -- line 0 is named exactly if the text is empty or too long
  pub names_0 : (text_of s ≡ unreadable 0) ↔ ((length s ≡ 0) ⊎ (4096 < length s))
  names_0 = (λ e. of ((said_exactly s (unreadable 0)).0 e) refl, λ o. reads s (length_out o))
    where
      of : {x : Said} → Says s x → x ≡ unreadable 0 → (length s ≡ 0) ⊎ (4096 < length s)
      of (length_out o) e = o
      of (table l h) e = no_table e
      of (first_line l h) e = no_line 1 0 e (omega arith)
      of (later_line l h p n) e = no_line _ 0 e (omega arith)

  -- else line 1, if the text does not start with the line of a core count
  pub names_1 : (text_of s ≡ unreadable 1) ↔ ((0 < length s) × (length s ≤ 4096) × NoCores s)
  names_1 = (λ e. of ((said_exactly s (unreadable 1)).0 e) refl, λ h. reads s (first_line (h.0, h.1) h.2))
    where
      of : {x : Said} → Says s x → x ≡ unreadable 1 → (0 < length s) × (length s ≤ 4096) × NoCores s
      of (first_line l h) e = (l.0, l.1, h)
      of (table l h) e = no_table e
      of (length_out o) e = no_line 0 1 e (omega arith)
      of (later_line l h p n) e = no_line _ 1 e (omega arith)

  -- else the line after those of the core count and of k tasks, if more stands there and it is no line of a task
  pub names_later : (k : ℕ) → (text_of s ≡ unreadable (k + 2)) ↔ ((length s ≤ 4096) × UpTo s k)
  names_later k = (λ e. of ((said_exactly s (unreadable (k + 2))).0 e) refl, back)
    where
      of : {x : Said} → Says s x → x ≡ unreadable (k + 2) → (length s ≤ 4096) × UpTo s k
      of (later_line {m} {xs} {rest} l h p n) e =
          let z : length xs / 2 + 2 ≡ k + 2 = cc in
          (l.1, (m, xs, rest, h, omega (arith, h.tasks.0), p, n))
      of (table l h) e = no_table e
      of (length_out o) e = no_line 0 (k + 2) e (omega arith)
      of (first_line l h) e = no_line 1 (k + 2) e (omega arith)

      back : (length s ≤ 4096) × UpTo s k → text_of s ≡ unreadable (k + 2)
      back (l, (m, xs, rest, h, e, p, n)) =
          let z : length xs / 2 + 2 ≡ k + 2 = omega arith in
          let f = h.lines ∙ append_assoc (cores_written m) (tasks_written xs) rest in
          reads s (later_line (cores_long s m (tasks_written xs ++ rest) f, l) h p n) ∙ ap unreadable z
