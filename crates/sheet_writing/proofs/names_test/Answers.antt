-- `sheet_writing::names_test` meets its contract.
use Rattle.std.specs.declared.option.Option.TheVariants.{Some}
use mathlib.Core.Path.{◌≡◌, sym, ◌∙◌}
use Rattle.name_list.specs.Names.{names_said}
use Rattle.sheet_writing.proofs.Refused.{same_some, other_some, no_names, name_again_lem, names_fine}
use Rattle.sheet_writing.proofs.names_test.Goals.{Else-ne}
use Rattle.sheet_writing.proofs.names_test.Goals as goal

-- there is a name for each task
enough : (c : Else-ne) → names_said c.args.names.now ≡ Some c.args.tasks
enough c = sym c.read_names.ensures ∙ same_some _ _ c.if-ne.ensures

pub returns-then-ne : goal.returns-then-ne
returns-then-ne c = c.from.ensures ∙ no_names _ _ (λ e. other_some _ _ c.if-ne.ensures (c.read_names.ensures ∙ e))

pub returns-then-name_twice : goal.returns-then-name_twice
returns-then-name_twice c =
    c.from-then-name_twice.ensures ∙ name_again_lem _ _ (enough (goal.at.returns-then-name_twice c).Else-ne) (sym c.if-name_twice.ensures)

pub returns : goal.returns
returns c = names_fine _ _ (enough (goal.at.returns c).Else-ne) (sym c.if-name_twice.ensures)
