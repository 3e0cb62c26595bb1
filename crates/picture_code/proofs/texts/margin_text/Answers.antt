-- `margin_text` has these bytes, which both sides compute to.
use mathlib.Core.Path.{refl}
use Rattle.picture.specs.Texts.{margin_text}
use Rattle.picture_code.proofs.texts.margin_text.Goals as goal

pub returns : goal.returns
unfolding margin_text
returns c = refl
