-- Storing the numbers of the task lines.
use Rattle.std.specs.declared.option.Option.TheVariants.{Some, None}
use Prim.Native.Nat.{ℕ, suc, ◌+◌, ◌-◌, ◌*◌, ◌≤◌}
use mathlib.Core.Path.{◌≡◌, refl, sym, ap, ◌∙◌}
use mathlib.Core.List.{List, ◌∷◌}
use native.Mathlib.Omega.{arith}
use native.Mathlib.Nat.{sub-zero}
use lib.ListN.{length, set, length-set}
use lib.Seq.{sets}
use Rattle.table_text.specs.Text.{task_line, numbers_from}
use Rattle.table_text.proofs.Tables.{task_kept, task_inside, numbers_none, numbers_later}

-- two stores, and then the later numbers
pub stored_two : (l : List ℕ) (i c t : ℕ) (r : List ℕ) → sets l (2 * i) (c ∷ t ∷ r) ≡ sets (set (set l (2 * i) c) (2 * i + 1) t) (2 * (i + 1)) r
stored_two l i c t r =
    let e : suc (2 * i) ≡ 2 * i + 1 = omega arith in
    let f : suc (suc (2 * i)) ≡ 2 * (i + 1) = omega arith in
    ap (λ (k : ℕ). sets (set (set l (2 * i) c) (suc (2 * i)) t) k r) f
    ∙ ap (λ (k : ℕ). sets (set (set l (2 * i) c) k t) (2 * (i + 1)) r) e

-- while numbers are stored: those of i tasks stand in the table, and those that are left make up the whole
pub record Stored (s : List ℕ) (from : ℕ) (before now : List ℕ) (i at : ℕ) : Type 0 where
  pub ahead : i ≤ at
  pub within : i ≤ length s
  pub long : length now ≡ length before
  pub count : length (numbers_from (length s) s from) ≡ 2 * i + length (numbers_from (length s - i) s at)
  pub table : sets before 0 (numbers_from (length s) s from) ≡ sets now (2 * i) (numbers_from (length s - i) s at)

-- at first none stands
pub start : (s : List ℕ) (from : ℕ) (l : List ℕ) → Stored s from l l 0 from
start s from l = record { ahead = omega arith; within = omega arith; long = refl; count = rw sub-zero (omega arith); table = rw sub-zero refl }

module _ (s : List ℕ) (from : ℕ) (before : List ℕ) {now : List ℕ} (i at : ℕ) (h : Stored s from before now i at) where
  -- the two numbers of one more task
  pub more : {l₁ l₂ : List ℕ} (c t : ℕ) {next : ℕ} → task_line s at ≡ Some (c, t, next) → l₁ ≡ set now (2 * i) c → l₂ ≡ set l₁ (2 * i + 1) t
      → Stored s from before l₂ (i + 1) next
  more {l₁} {l₂} c t {next} p a b =
      let k = task_inside s at c t next p in
      let e : length s - i ≡ suc (length s - (i + 1)) = omega (arith, h.ahead) in
      let q = numbers_later s at _ _ e k p in
      record {
        ahead = omega (arith, h.ahead, (task_kept s at c t next p).2);
        within = omega (arith, h.ahead);
        long = ap length (b ∙ ap (λ (l : List ℕ). set l (2 * i + 1) t) a) ∙ simp length-set h.long;
        count = omega (arith, h.count, ap length q);
        table = h.table ∙ rw (q, b, a) (stored_two now i c t (numbers_from (length s - (i + 1)) s next));
      }

  -- where no line can be read all stand
  pub whole : task_line s at ≡ None → (2 * i ≡ length (numbers_from (length s) s from)) × (now ≡ sets before 0 (numbers_from (length s) s from))
  whole p =
      let e = numbers_none s at (length s - i) p in
      (omega (arith, h.count, ap length e), sym (h.table ∙ rw e refl))
