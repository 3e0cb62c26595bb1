-- `check` refuses a text that is too long, and reads any other.
use Rattle.checking.proofs.Check.{told-long}
use borrow.Author.Rules.{rules}
use Rattle.checking_code.proofs.check.Goals as goal

pub returns-then-text-gt-LONGEST_INPUT : goal.returns-then-text-gt-LONGEST_INPUT
returns-then-text-gt-LONGEST_INPUT c = search (rules, told-long)
