-- `report_plan` takes the plan's cells, and buffers for every order and for the run's table.
use borrow.Author.Rules.{rules}
use Rattle.reporting.proofs.Reports.{lent-report, lent-cause, lent-inside, lent-sound, lent-few}
use Rattle.reporting.proofs.Texts.{printed-same}
use Rattle.reporting_code.proofs.report_plan.Goals as goal

pub slice_bounds-report_cells-end : goal.slice_bounds-report_cells-end
slice_bounds-report_cells-end c = search lent-inside

pub report_cells-requires : goal.report_cells-requires
report_cells-requires c = search (lent-sound, lent-few)

pub returns : goal.returns
returns c = search (rules, printed-same, lent-report, lent-cause)
