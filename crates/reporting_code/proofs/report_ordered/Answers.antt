-- `report_ordered` makes the run and reports on it.
use borrow.Author.Rules.{rules}
use Rattle.reporting.proofs.Runs.{ran}
use Rattle.reporting_code.proofs.report_ordered.Goals as goal

pub report_run-requires : goal.report_run-requires
report_run-requires c = search (rules, ran)
