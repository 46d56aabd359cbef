-- Lines whose numbers agree are one.
use mathlib.Core.Path.{◌≡◌, sym, ap, ◌∙◌}
use Rattle.units.specs.Units.{share, duration, units}
use Rattle.units.proofs.Units.{units_nums}
use Rattle.planning.specs.declared.Line.{Line}
use Rattle.planning.specs.Plan.{row_of}

pub line_same : (a b : Line) → a.cost.0 ≡ b.cost.0 → a.period.0 ≡ b.period.0 → a.weight.0 ≡ b.weight.0 → row_of a ≡ row_of b → a ≡ b
line_same a b c t w r =
    let shares = sym (units_nums a.shares) ∙ ap units r ∙ units_nums b.shares in
    λ i. record { cost = duration (c i); period = duration (t i); weight = share (w i); shares = shares i }
