-- `nearest_code::nearest_among`. The invariant: the place and the gap of the nearest of the rectangles looked at so far.
use Rattle.plan.specs.Plan.{rect_at}
use Rattle.nearest.proofs.Answers.{Found}
use Rattle.nearest_code.proofs.nearest_among.Given as goal

abbrev pub invariant-loop-p : goal.invariant-loop-p
invariant-loop-p l = Found l.around (rect_at l.cells) l.size l.least l.place l.p
