-- `judge` goes by the test of the window.
use borrow.Author.Rules.{rules}
use Rattle.listing.proofs.WindowLines.{judged-good, judged-bad}
use Rattle.listing_code.proofs.windows_text.judge.Goals as goal

pub returns-then-is_window : goal.returns-then-is_window
returns-then-is_window c = search (rules, judged-good)

pub returns : goal.returns
returns c = search (rules, judged-bad)
