-- `open_text` has these bytes, which both sides compute to.
use mathlib.Core.Path.{refl}
use Rattle.picture.specs.Texts.{open_text}
use Rattle.picture_code.proofs.texts.open_text.Goals as goal

pub returns : goal.returns
unfolding open_text
returns c = refl
