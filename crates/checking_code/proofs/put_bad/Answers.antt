-- `put_bad` finds the line, its end and what is wrong with it.
use Rattle.checking.proofs.Words.{error-room}
use Rattle.checking.proofs.Check.{bad-put}
use borrow.Author.Rules.{rules}
use Rattle.checking_code.proofs.put_bad.Goals as goal

pub put_line_error-requires : goal.put_line_error-requires
put_line_error-requires c = search (rules, error-room)

pub returns : goal.returns
returns c = search (rules, bad-put)
