-- `geometry_code::meet`: a common rectangle that holds a point, or not.
use Rattle.geometry.proofs.Machine.{meet-then, meet-else}
use Rattle.geometry_code.proofs.meet.Goals as goal

pub returns-then-is_nonempty : goal.returns-then-is_nonempty
returns-then-is_nonempty c = meet-then _ _ _ _ c.common_of-c.ensures c.is_nonempty.ensures _ c.if-is_nonempty.true c.kind_of-kind.ensures

pub returns-else-is_nonempty : goal.returns-else-is_nonempty
returns-else-is_nonempty c = meet-else _ _ _ _ c.common_of-c.ensures c.is_nonempty.ensures c.if-is_nonempty.false
