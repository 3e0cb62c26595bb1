-- `reason_beyond` takes the line as one of a window, and goes by what is wrong with it.
use Rattle.listing.proofs.Windowed.{beyond-window, beyond-stated, beyond-formed}
use borrow.Author.Rules.{rules}
use Rattle.listing_code.proofs.windows_text.reason_beyond.Goals as goal

pub returns-in-Ok : goal.returns-in-Ok
returns-in-Ok c = search (rules, beyond-window)

pub returns-in-Err-WrongWindow : goal.returns-in-Err-WrongWindow
returns-in-Err-WrongWindow c = search (rules, beyond-stated)

pub returns-in-Err : goal.returns-in-Err
returns-in-Err c = search (rules, beyond-formed)
