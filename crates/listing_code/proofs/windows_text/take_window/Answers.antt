-- `take_window` takes the line, and where it has no window tells what is wrong with it.
use Rattle.listing.proofs.WindowLines.{no_line, line-window, line-wrong}
use borrow.Author.Rules.{rules}
use Rattle.listing_code.proofs.windows_text.take_window.Goals as goal

pub returns-then-t-at : goal.returns-then-t-at
returns-then-t-at c = search (rules, no_line)

pub returns-in-Ok : goal.returns-in-Ok
returns-in-Ok c = search (rules, line-window)

pub returns-in-Err : goal.returns-in-Err
returns-in-Err c = search (rules, line-wrong)
