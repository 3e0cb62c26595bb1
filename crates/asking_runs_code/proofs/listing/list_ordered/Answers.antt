-- `list_ordered` makes the run and lists its rows.
use Rattle.asking_runs_code.proofs.PairRuns.{ran, lent-after}
use borrow.Author.Rules.{rules}
use Rattle.asking_runs_code.proofs.listing.list_ordered.Goals as goal

pub list_run-requires : goal.list_run-requires
list_run-requires c = search (rules, ran)

pub returns : goal.returns
returns c = search (rules, lent-after)
