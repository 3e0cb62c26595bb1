-- `nearest_code::nearest_told`: the six layers one after another.
use Rattle.plan.specs.Plan.{layers_of}
use Rattle.nearest.proofs.Answers.{nearest-eq}
use Rattle.nearest_code.proofs.nearest_told.Goals as goal

pub returns : goal.returns
returns c =
    let a = c.args in
    nearest-eq (layers_of a.sizes.now a.cells.now) _ _ _ _ _ _ _ c.nearest_at-a.ensures c.nearest_at-b.ensures c.nearest_at-c.ensures c.nearest_at-d.ensures c.nearest_at-e.ensures c.nearest_at-f.ensures
