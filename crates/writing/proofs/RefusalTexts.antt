-- What a refusal's line says it names, case by case.
use mathlib.Core.Path.{◌≡◌, refl}
use mathlib.Core.Bool.{true, false}
use mathlib.Core.List.{[]}
use borrow.Author.Tests.{ne_eqb}
use Rattle.units.specs.Refusals.{Refusal, text_no}
use Rattle.writing.specs.Field.{field}
use Rattle.writing.specs.Refused.{of_arrival, named_text}

module _ (r : Refusal) where
  -- the line of an unreadable text
  pub names_line : r.no ≡ text_no → field " line " r.named ≡ named_text r
  unfolding named_text
  names_line e = rw e refl

  module _ (other : r.no ≡ text_no → ⊥) where
    -- nothing
    pub names_none : r.named ≡ 0 → [] ≡ named_text r
    unfolding named_text
    names_none e = rw (ne_eqb r.no text_no other, e) refl

    module _ (some : r.named ≡ 0 → ⊥) where
      -- an arrival
      pub names_arrival : of_arrival r.no ≡ true → field " arrival " r.named ≡ named_text r
      unfolding named_text
      names_arrival e = rw (ne_eqb r.no text_no other, ne_eqb r.named 0 some, e) refl

      -- a task
      pub names_task : of_arrival r.no ≡ false → field " task " r.named ≡ named_text r
      unfolding named_text
      names_task e = rw (ne_eqb r.no text_no other, ne_eqb r.named 0 some, e) refl
