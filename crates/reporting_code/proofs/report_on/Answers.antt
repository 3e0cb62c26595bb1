-- `report_on` refuses a text that is too long, and reads any other.
use borrow.Author.Rules.{rules}
use Rattle.reporting.proofs.Texts.{long-text, long-cause, printed-same}
use Rattle.reporting_code.proofs.report_on.Goals as goal

pub returns-then-text-gt-LONGEST_INPUT : goal.returns-then-text-gt-LONGEST_INPUT
returns-then-text-gt-LONGEST_INPUT c = search (rules, printed-same, long-text, long-cause)
