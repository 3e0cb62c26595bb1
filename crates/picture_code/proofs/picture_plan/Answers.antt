-- `picture_plan` has the run made.
use Rattle.picture.proofs.Runs.{ran}
use borrow.Author.Rules.{rules}
use Rattle.picture_code.proofs.picture_plan.Goals as goal

pub picture_told-requires : goal.picture_told-requires
picture_told-requires c = search (rules, ran)
