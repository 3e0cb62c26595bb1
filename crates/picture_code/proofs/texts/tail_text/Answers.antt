-- `tail_text` has these bytes, which both sides compute to.
use mathlib.Core.Path.{refl}
use Rattle.picture.specs.Texts.{tail_text}
use Rattle.picture_code.proofs.texts.tail_text.Goals as goal

pub returns : goal.returns
unfolding tail_text
returns c = refl
