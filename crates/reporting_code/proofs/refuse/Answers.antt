-- `refuse` puts the line.
use Rattle.reporting.proofs.Reports.{refused-room}
use Rattle.reporting.proofs.Texts.{printed-put}
use borrow.Author.Rules.{rules}
use Rattle.reporting_code.proofs.refuse.Goals as goal

pub put_refused-size-requires : goal.put_refused-size-requires
put_refused-size-requires c = rw c.from.ensures (search refused-room)

pub returns : goal.returns
returns c = let p = rw c.from.ensures at c.put_refused-size.ensures in search (rules, printed-put, p)
