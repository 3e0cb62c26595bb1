-- `rounds_code::serving::empty_page`.
use Rattle.rounds_code.proofs.serving.empty_page.Goals as goal

pub returns : goal.returns
returns c = rw c.nothing.ensures
