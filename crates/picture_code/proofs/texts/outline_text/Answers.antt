-- `outline_text` has these bytes, which both sides compute to.
use mathlib.Core.Path.{refl}
use Rattle.picture.specs.Texts.{outline_text}
use Rattle.picture_code.proofs.texts.outline_text.Goals as goal

pub returns : goal.returns
unfolding outline_text
returns c = refl
