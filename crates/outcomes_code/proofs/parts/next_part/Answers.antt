-- `next_part` goes behind the byte that it finds.
use borrow.Author.Rules.{rules}
use Rattle.outcomes.proofs.Texts.{goes_on, goes-nowhere}
use Rattle.outcomes_code.proofs.parts.next_part.Goals as goal

pub returns-then-end-text : goal.returns-then-end-text
returns-then-end-text c = search (rules, goes_on)

pub returns : goal.returns
returns c = search (rules, goes-nowhere)
