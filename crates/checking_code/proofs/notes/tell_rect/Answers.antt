-- `tell_rect` tells of a line too many, and of its sides.
use Rattle.checking.proofs.Faults.{rect-noted}
use borrow.Author.Rules.{rules}
use Rattle.checking_code.proofs.notes.tell_rect.Goals as goal

pub returns : goal.returns
returns c = search (rules, rect-noted)
