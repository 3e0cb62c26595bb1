-- `ground_text` has these bytes, which both sides compute to.
use mathlib.Core.Path.{refl}
use Rattle.picture.specs.Texts.{ground_text}
use Rattle.picture_code.proofs.texts.ground_text.Goals as goal

pub returns : goal.returns
unfolding ground_text
returns c = refl
