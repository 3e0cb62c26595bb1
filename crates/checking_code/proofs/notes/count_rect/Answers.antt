-- `count_rect` counts down, or says that there was one too many.
use Rattle.checking.proofs.Faults.{counted-over, counted-due}
use borrow.Author.Rules.{rules}
use Rattle.checking_code.proofs.notes.count_rect.Goals as goal

pub returns-then-c-eq0 : goal.returns-then-c-eq0
returns-then-c-eq0 c = search (rules, counted-over)

pub returns : goal.returns
returns c = search (rules, counted-due)
