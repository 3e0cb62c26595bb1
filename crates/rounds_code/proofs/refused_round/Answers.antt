-- `rounds_code::refused_round`.
use Rattle.rounds_code.proofs.refused_round.Goals as goal

pub returns : goal.returns
returns c = rw (c.empty_pages.ensures, c.from.ensures)
