-- `c_codec::ticket_in`: the cursor and the count in the cells.
use borrow.Author.Rules.{rules}
use Rattle.c_codec.proofs.ticket_in.Goals as goal

pub returns : goal.returns
returns c = λ i. record { cursor = c.cursor_in-cursor.ensures i; count = c.count_of-count.ensures i }
