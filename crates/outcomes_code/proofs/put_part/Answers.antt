-- `put_part` puts the bytes of the part.
use Rattle.outcomes.proofs.Outcomes.{part_room, part-put}
use borrow.Author.Rules.{rules}
use Rattle.outcomes_code.proofs.put_part.Goals as goal

pub put_word-requires : goal.put_word-requires
put_word-requires c = search (rules, part_room)

pub returns : goal.returns
returns c = search (rules, part-put)
