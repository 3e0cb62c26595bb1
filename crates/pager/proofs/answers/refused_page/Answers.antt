-- `pager::answers::refused_page`.
use Rattle.pager.proofs.answers.refused_page.Goals as goal

pub returns : goal.returns
returns c = rw (c.from.ensures, c.nothing.ensures)
