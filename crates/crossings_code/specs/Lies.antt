-- How a segment lies, as the definition of segments takes it; no contract of an exported call cites it.
use Rattle.std.specs.Prelude.{Bool, true, false}
use Rattle.crossings_code.specs.declared.Lie.{Lie}
use Rattle.crossings_code.specs.declared.Lie.TheVariants.{Level, Upright}

-- whether it is a horizontal one
abbrev pub is_level : Lie → Bool
is_level Level = true
is_level Upright = false
