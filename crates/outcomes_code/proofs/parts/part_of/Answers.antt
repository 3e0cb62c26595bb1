-- `part_of` is the bytes between the start and the end of the part.
use Rattle.outcomes.proofs.Outcomes.{part-between}
use borrow.Author.Rules.{rules}
use Rattle.outcomes_code.proofs.parts.part_of.Goals as goal

pub returns : goal.returns
returns c = search (rules, part-between)
