-- `is_unknown` asks for a name, then for its command.
use Rattle.commands.proofs.Outcomes.{unknown-none, unknown-named}
use borrow.Author.Rules.{rules}
use Rattle.commands_code.proofs.answers.is_unknown.Goals as goal

pub returns-then-names-gt0 : goal.returns-then-names-gt0
returns-then-names-gt0 c = search (rules, unknown-named)

pub returns-else-names-gt0 : goal.returns-else-names-gt0
returns-else-names-gt0 c = search (rules, unknown-none)
