-- `reason_lines` has these bytes, which both sides compute to.
use mathlib.Core.Path.{refl}
use Rattle.checking.specs.inner.Words.{reason_lines}
use Rattle.checking_code.proofs.words.reason_lines.Goals as goal

pub returns : goal.returns
unfolding reason_lines
returns c = refl
