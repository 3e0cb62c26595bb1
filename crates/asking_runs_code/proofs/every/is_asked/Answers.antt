-- `is_asked` compares the number with 0 and both layers.
use Rattle.asking_runs_code.proofs.Loops.{asked-all, asked-lower, asked-higher}
use borrow.Author.Rules.{rules}
use Rattle.asking_runs_code.proofs.every.is_asked.Goals as goal

pub returns-then-n-eq0 : goal.returns-then-n-eq0
returns-then-n-eq0 c = search (rules, asked-all)

pub returns-then-n-i : goal.returns-then-n-i
returns-then-n-i c = search (rules, asked-lower)

pub returns-else-n-i : goal.returns-else-n-i
returns-else-n-i c = search (rules, asked-higher)
