-- `put_error_part` puts the bytes of the part as a line.
use Rattle.outcomes.proofs.Outcomes.{error-room, part-error}
use borrow.Author.Rules.{rules}
use Rattle.outcomes_code.proofs.put_error_part.Goals as goal

pub put_error-requires : goal.put_error-requires
put_error-requires c = search (rules, error-room)

pub returns : goal.returns
returns c = search (rules, part-error)
