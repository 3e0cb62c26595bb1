-- `pager::answers::plain_page`: that of a walk, which is not timed.
use Rattle.pager.proofs.Calls.{plain-paged}
use Rattle.pager.proofs.answers.plain_page.Goals as goal

pub returns : goal.returns
returns c = plain-paged c.args.walk.now.frame c.args.walk.now.cells.now c.args.walk.now.hours.now c.requires.1 _ _ _ _ _ _ _ c.page_at.ensures
