-- `plan_code::rect_at`.
use borrow.Author.Rules.{rules}
use Rattle.plan.specs.Plan.{rect_at}
use Rattle.plan_code.proofs.rect_at.Goals as goal

pub returns : goal.returns
unfolding rect_at
returns c = search rules
