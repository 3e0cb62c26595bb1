-- `cause_lines` has these bytes, which both sides compute to.
use mathlib.Core.Path.{refl}
use Rattle.outcomes.specs.Outcomes.{cause_lines}
use Rattle.outcomes_code.proofs.words.cause_lines.Goals as goal

pub returns : goal.returns
unfolding cause_lines
returns c = refl
