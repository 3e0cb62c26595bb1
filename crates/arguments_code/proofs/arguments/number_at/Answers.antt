-- `number_at` asks the argument's bytes.
use mathlib.Core.Path.{ap, ◌∙◌}
use Rattle.commands.specs.Arguments.{argument_value}
use borrow.Author.Rules.{rules}
use Rattle.arguments_code.proofs.arguments.number_at.Goals as goal

pub returns : goal.returns
returns c =
    let e = c.number_of.ensures ∙ ap argument_value c.part_of.ensures in
    search (rules, e)
