-- `report_sound` makes the order and reports in it.
use borrow.Author.Rules.{rules}
use Rattle.reporting.proofs.Reports.{swept}
use Rattle.reporting_code.proofs.report_sound.Goals as goal

pub report_ordered-requires : goal.report_ordered-requires
report_ordered-requires c = search (rules, swept)
