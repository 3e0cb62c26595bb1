-- `hatch_text` has these bytes, which both sides compute to.
use mathlib.Core.Path.{refl}
use Rattle.picture.specs.Texts.{hatch_text}
use Rattle.picture_code.proofs.texts.hatch_text.Goals as goal

pub returns : goal.returns
unfolding hatch_text
returns c = refl
