-- `plan_code::margins::grow_plan`.
use Rattle.plan.proofs.Growing.{growable, grown-put}
use Rattle.plan_code.proofs.margins.grow_plan.Goals as goal

pub grow_layers-requires : goal.grow_layers-requires
grow_layers-requires c = growable c.args.shape _ c.requires.0 _ c.requires.1

pub returns : goal.returns
returns c = grown-put c.args.shape _ c.requires.0 _ _ _ c.requires.1 c.grow_layers.ensures
