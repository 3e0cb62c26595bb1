-- `text_source` asks whether the call fits, whether the command reads a text, and whether a name is left for it.
use Rattle.commands.proofs.Calls.{text-misused, text-none, text-named, text-input}
use borrow.Author.Rules.{rules}
use Rattle.arguments_code.proofs.sources.text_source.Goals as goal

pub returns-in_default : goal.returns-in_default
returns-in_default c = search (rules, text-misused)

pub returns-then-limit_of-ne1 : goal.returns-then-limit_of-ne1
returns-then-limit_of-ne1 c = search (rules, text-none)

pub returns-then-limit_of-call : goal.returns-then-limit_of-call
returns-then-limit_of-call c = search (rules, text-named)

pub returns : goal.returns
returns c = search (rules, text-input)
