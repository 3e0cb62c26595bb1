-- `answer` lets the command answer.
use Rattle.commands.proofs.Answers.{says-report, says-check, says-pairs, says-nearest, says-apart, says-classes, says-hours, says-cover, says-picture, says-help, says-version}
use borrow.Author.Rules.{rules}
use Rattle.commands_code.proofs.answer.Goals as goal

pub returns-in-Report : goal.returns-in-Report
returns-in-Report c = search (rules, says-report)

pub returns-in-Check : goal.returns-in-Check
returns-in-Check c = search (rules, says-check)

pub returns-in-Pairs : goal.returns-in-Pairs
returns-in-Pairs c = search (rules, says-pairs)

pub returns-in-Nearest : goal.returns-in-Nearest
returns-in-Nearest c = search (rules, says-nearest)

pub returns-in-Apart : goal.returns-in-Apart
returns-in-Apart c = search (rules, says-apart)

pub returns-in-Classes : goal.returns-in-Classes
returns-in-Classes c = search (rules, says-classes)

pub returns-in-Hours : goal.returns-in-Hours
returns-in-Hours c = search (rules, says-hours)

pub returns-in-Cover : goal.returns-in-Cover
returns-in-Cover c = search (rules, says-cover)

pub returns-in-Picture : goal.returns-in-Picture
returns-in-Picture c = search (rules, says-picture)

pub returns-in-Help : goal.returns-in-Help
returns-in-Help c = search (rules, says-help)

pub returns-in-Version : goal.returns-in-Version
returns-in-Version c = search (rules, says-version)
