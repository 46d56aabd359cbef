-- A text has at most 2,048 numbers, each of them of two bytes or more: a lent table of that length holds them all.
use Rattle.std.specs.declared.option.Option.TheVariants.{Some, None}
use Prim.Native.Nat.{ℕ, zero, suc, ◌+◌, ◌-◌, ◌*◌, ◌≤◌, ◌<◌}
use mathlib.Core.Path.{◌≡◌, refl, ap, ◌∙◌}
use mathlib.Core.List.{List}
use native.Mathlib.Omega.{arith}
use borrow.Author.Tests.{ltb-true, ltb-false}
use lib.Dec.{ltb, eqb}
use lib.ListN.{length, take, drop}
use lib.Seq.{sets, sets-eq, take_at}
use Rattle.lists.proofs.Tests.{by_cases}
use Rattle.writing.specs.Ascii.{newline}
use Rattle.scanning.proofs.Fields.{field_kept}
use Rattle.table_text.specs.Text.{text_limit, number_bound, cores_line, task_line, bad_task, then_later, numbers_from, table_from, after_cores, text_of, table_said}
use Rattle.table_text.proofs.Tables.{task_kept}
use Rattle.scanning.specs.Number.{Number}
use Rattle.scanning.specs.Line.{Pair}

-- one line, of four bytes or more, before the later ones
line_fits : (n at : ℕ) (later : ℕ → List ℕ) (line : Pair) → at < n → ((c t next : ℕ) → line ≡ Some (c, t, next) → at + 4 ≤ next)
    → ((next : ℕ) → 2 * length (later next) ≤ n + 3 - next) → 2 * length (then_later later line) ≤ n + 3 - at
unfolding then_later
line_fits n at later (Some (c, t, next)) h f g = omega (arith, f c t next refl, g next)
line_fits n at later None h f g = omega arith

-- the numbers from a place on; the last line may end past the text by three bytes
numbers_fit : (f : ℕ) (s : List ℕ) (at : ℕ) → 2 * length (numbers_from f s at) ≤ length s + 3 - at
unfolding numbers_from
numbers_fit zero s at = omega arith
numbers_fit (suc f) s at =
    by_cases (ltb at (length s))
    (λ h. rw h (line_fits (length s) at (λ next. numbers_from f s next) (task_line s at) (ltb-true at (length s) h)
    (λ c t next e. (task_kept s at c t next e).2) (λ next. numbers_fit f s next)))
    (λ h. rw h (omega arith))

-- a table that starts at the third byte or later
table_fits : (s : List ℕ) (m at : ℕ) → 2 ≤ at → length s ≤ text_limit → length (table_said (table_from s m at)) ≤ 2048
unfolding table_from table_said
table_fits s m at h k =
    by_cases (eqb (bad_task s at) 0) (λ e. rw e (omega (arith, numbers_fit (length s) s at))) (λ e. rw e (omega arith))

after_fits : (s : List ℕ) (n : Number) → length s ≤ text_limit → ((m at : ℕ) → n ≡ Some (m, at) → 2 ≤ at) → length (table_said (after_cores s n)) ≤ 2048
unfolding after_cores table_said
after_fits s (Some (m, at)) h f = table_fits s m at (f m at refl) h
after_fits s None h f = omega arith

-- the numbers of a text
pub text_fits : (s : List ℕ) → length (table_said (text_of s)) ≤ 2048
unfolding text_of table_said
text_fits s =
    by_cases (ltb text_limit (length s))
    (λ h. rw h (omega arith))
    (λ h. by_cases (eqb (length s) 0)
    (λ e. rw (h, e) (omega arith))
    (λ e. rw (h, e) (after_fits s (cores_line s) (ltb-false text_limit (length s) h) (λ m at q. (field_kept number_bound s newline 0 m at (omega arith) q).1))))

-- so a lent table of 2,048 numbers starts with all of them
pub table_holds : (s l : List ℕ) → 2048 ≤ length l → take (length (table_said (text_of s))) (sets l 0 (table_said (text_of s))) ≡ table_said (text_of s)
table_holds s l h =
    let xs = table_said (text_of s) in
    ap (take (length xs)) (sets-eq xs l 0 (omega (arith, text_fits s))) ∙ take_at xs (drop (0 + length xs) l) (length xs) refl
