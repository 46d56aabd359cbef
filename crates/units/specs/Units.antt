-- Numbers and units of 1/L core.
use Rattle.std.specs.Prelude.{ℕ, List, map}
use Rattle.units.specs.declared.share.Share.{Share}
use Rattle.units.specs.declared.ticks.Ticks.{Ticks}
use Rattle.units.specs.declared.ticks.Duration.{Duration}

-- a number of units
abbrev pub share : ℕ → Share
share n = record { 0 = n }

-- a number of ticks
abbrev pub ticks : ℕ → Ticks
ticks n = record { 0 = n }

-- a number of ticks from one time to another
abbrev pub duration : ℕ → Duration
duration n = record { 0 = n }

-- the numbers of a list of shares
abbrev pub nums : List Share → List ℕ
nums ss = map (λ (s : Share). s.0) ss

-- the shares of a list of numbers
abbrev pub units : List ℕ → List Share
units xs = map share xs
