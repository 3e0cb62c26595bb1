-- `plan_code::margins::grown_cells`: the part of the run that `grow_plan` has put.
use Rattle.plan.proofs.Growing.{part-long}
use Rattle.plan_code.proofs.Drawn.{as-grown}
use Rattle.plan_code.proofs.margins.grown_cells.Goals as goal

pub slice_bounds-result-end : goal.slice_bounds-result-end
slice_bounds-result-end c = part-long _ _ _ c.grow_plan.ensures

pub returns : goal.returns
returns c = as-grown _ _ _ c.requires.0 c.grow_plan.ensures.is
