-- `geometry_code::in_reach`.
use mir.Syntax.{w32}
use mir.Facts.{to_z-of_z}
use Rattle.geometry.specs.Rectangles.{between}
use Rattle.geometry_code.proofs.in_reach.Goals as goal

pub returns-then-z : goal.returns-then-z
unfolding between
returns-then-z c = cc (to_z-of_z {w = w32} c.ranges.z)

pub returns-else-z : goal.returns-else-z
unfolding between
returns-else-z c = cc (to_z-of_z {w = w32} c.ranges.z)
