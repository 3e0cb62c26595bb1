-- `put_refusal` puts the line and the words.
use Rattle.outcomes.proofs.Outcomes.{refused-room, told-refused}
use borrow.Author.Rules.{rules}
use Rattle.outcomes_code.proofs.put_refusal.Goals as goal

pub put_refused-m-requires : goal.put_refused-m-requires
put_refused-m-requires c = rw c.from.ensures (search (rules, refused-room))

pub returns : goal.returns
returns c = let p = rw c.from.ensures at c.put_refused-m.ensures in rw c.refused.ensures (search (rules, told-refused, p))
