-- `pager::answers::check_plain`: that of a walk, which is not timed.
use mathlib.Core.Path.{◌∙◌}
use Rattle.pager.proofs.Calls.{plain-cause}
use Rattle.pager.proofs.answers.check_plain.Goals as goal

pub returns : goal.returns
returns c = c.check_ticket.ensures ∙ plain-cause c.args.walk.now.frame c.args.walk.now.cells.now c.args.walk.now.hours.now c.requires.1 c.args.ticket c.args.counter.now
