-- `end_text` has these bytes, which both sides compute to.
use mathlib.Core.Path.{refl}
use Rattle.picture.specs.Texts.{end_text}
use Rattle.picture_code.proofs.texts.end_text.Goals as goal

pub returns : goal.returns
unfolding end_text
returns c = refl
