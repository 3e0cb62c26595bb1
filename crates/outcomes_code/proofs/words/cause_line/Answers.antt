-- `cause_line`: each cause has a line of its own.
use Rattle.std.proofs.Common.{◌≡◌, ◌≤◌, ◌∙◌, arith}
use Rattle.plan.specs.declared.cause.Cause.{Cause}
use Rattle.plan.specs.Causes.{number_of}
use Rattle.outcomes.proofs.Outcomes.{line_known, number-most}
use Rattle.outcomes_code.proofs.words.cause_line.Goals as goal

pub returns : goal.returns
returns c = c.from.ensures ∙ line_known _ (number-most c.args.cause)
