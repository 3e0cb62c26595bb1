-- `put_fault` puts both lines.
use borrow.Author.Rules.{rules}
use Rattle.outcomes.proofs.Outcomes.{refused-room}
use Rattle.listing.proofs.Faults.{fault-told}
use Rattle.listing_code.proofs.fault_lines.put_fault.Goals as goal

pub put_refused-m-requires : goal.put_refused-m-requires
put_refused-m-requires c = rw c.from.ensures (search (rules, refused-room))

pub returns : goal.returns
returns c = let p = rw c.from.ensures at c.put_refused-m.ensures in rw c.refused.ensures (search (rules, fault-told, p))
