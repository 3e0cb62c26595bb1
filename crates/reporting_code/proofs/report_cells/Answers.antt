-- `report_cells` takes as much of the order's buffer as the plan has rectangles.
use borrow.Author.Rules.{rules}
use Rattle.reporting.proofs.Reports.{part-long}
use Rattle.reporting_code.proofs.report_cells.Goals as goal

pub slice_bounds-report_sound-end-2 : goal.slice_bounds-report_sound-end-2
slice_bounds-report_sound-end-2 c = search (rules, part-long)

pub report_sound-requires : goal.report_sound-requires
report_sound-requires c = search (rules, part-long)
