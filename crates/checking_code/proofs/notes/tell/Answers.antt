-- `tell` puts a line, unless all is right or enough was told.
use Rattle.checking.proofs.Notes.{noted-right, noted-full, note-room, noted_one}
use borrow.Author.Rules.{rules}
use Rattle.checking_code.proofs.notes.tell.Goals as goal

pub returns-then-right : goal.returns-then-right
returns-then-right c = search (rules, noted-right)

pub returns-then-pen-ge-MOST_NOTES : goal.returns-then-pen-ge-MOST_NOTES
returns-then-pen-ge-MOST_NOTES c = search (rules, noted-full)

pub put_line_error-at-requires : goal.put_line_error-at-requires
put_line_error-at-requires c = search (rules, note-room)

pub returns : goal.returns
returns c = search (rules, noted_one)
