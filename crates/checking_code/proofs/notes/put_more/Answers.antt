-- `put_more` puts a line where more than enough was counted.
use Rattle.checking.proofs.Notes.{more-none, more_room, more-put}
use borrow.Author.Rules.{rules}
use Rattle.checking_code.proofs.notes.put_more.Goals as goal

pub returns-then-pen-le-MOST_NOTES : goal.returns-then-pen-le-MOST_NOTES
returns-then-pen-le-MOST_NOTES c = search (rules, more-none)

pub put_line-requires : goal.put_line-requires
put_line-requires c = search (rules, more_room)

pub returns : goal.returns
returns c = search (rules, more-put)
