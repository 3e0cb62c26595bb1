-- `is_line` reads a line at the start.
use mathlib.Core.Path.{ap, ◌∙◌}
use Rattle.std.specs.Option as option
use Rattle.checking.proofs.Wording.{line-told}
use Rattle.checking_code.proofs.reasons.is_line.Goals as goal

pub returns : goal.returns
returns c = c.is_some.ensures ∙ (ap option.is_some c.read_line.ensures ∙ line-told c.args.l.now)
