-- `tell_missing` names the LAYER line.
use Rattle.checking.proofs.Faults.{missing-noted}
use borrow.Author.Rules.{rules}
use Rattle.checking_code.proofs.notes.tell_missing.Goals as goal

pub returns : goal.returns
returns c = search (rules, missing-noted)
