-- `head_text` has these bytes, which both sides compute to.
use mathlib.Core.Path.{refl}
use Rattle.picture.specs.Texts.{head_text}
use Rattle.picture_code.proofs.texts.head_text.Goals as goal

pub returns : goal.returns
unfolding head_text
returns c = refl
