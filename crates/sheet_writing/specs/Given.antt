-- When writing gives each of its answers, document 02, R-1, in its words and order.
use Rattle.std.specs.Prelude.{ℕ, ◌/◌, ◌≤◌, ◌<◌, ◌≡◌, List, [], length, get_or}
use Rattle.units.specs.Refusals.{refusal}
use Rattle.admission.specs.Admission.{plan_refusal}
use Rattle.names.specs.Name.{Name}
use Rattle.name_list.specs.Names.{names_text}
use Rattle.sheet_text.specs.Grammar.{TickIn, Distinct, Twice, sheet_written}
use Rattle.sheet_writing.specs.Write.{jobs_with, unwritten, written_whole}
use Rattle.sheet_writing.specs.Write.{Written}

-- the lent names are these: each of 1 to 12 small letters, a name a line, one for each task
pub record Named (xs names : List ℕ) (ns : List (List ℕ)) : Type 0 where
  pub text : names ≡ names_text ns
  pub each : (i : ℕ) → i < length ns → Name (get_or ns i [])
  pub count : length ns ≡ length xs / 2

-- neither the tick length nor the names refuse the table
pub record Fine (xs names : List ℕ) (tick : ℕ) (ns : List (List ℕ)) : Type 0 where
  pub tick_in : TickIn tick
  pub named : Named xs names ns
  pub distinct : Distinct ns

-- 19: tick length out of range; 17: a line is no name, or not one for each task; 18: the same name twice; planning's; 14: the buffer too short
pub data Given (m : ℕ) (xs names : List ℕ) (tick room : ℕ) : Written → Type 0 where
  refused_19 : (TickIn tick → ⊥) → Given m xs names tick room (unwritten (refusal 19 0))
  refused_17 : TickIn tick → ((ns : List (List ℕ)) → Named xs names ns → ⊥) → Given m xs names tick room (unwritten (refusal 17 0))
  refused_18 : {ns : List (List ℕ)} → TickIn tick → Named xs names ns → Twice ns → Given m xs names tick room (unwritten (refusal 18 0))
  planning : {ns : List (List ℕ)} → Fine xs names tick ns → ((plan_refusal m xs).no ≡ 0 → ⊥) → Given m xs names tick room (unwritten (plan_refusal m xs))
  refused_14 : {ns : List (List ℕ)} → Fine xs names tick ns → (plan_refusal m xs).no ≡ 0 → room < length (sheet_written tick (jobs_with tick ns xs))
      → Given m xs names tick room (unwritten (refusal 14 0))
  written : {ns : List (List ℕ)} → Fine xs names tick ns → (plan_refusal m xs).no ≡ 0 → length (sheet_written tick (jobs_with tick ns xs)) ≤ room
      → Given m xs names tick room (written_whole (length (sheet_written tick (jobs_with tick ns xs))))
