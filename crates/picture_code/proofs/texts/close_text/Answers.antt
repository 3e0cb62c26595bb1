-- `close_text` has these bytes, which both sides compute to.
use mathlib.Core.Path.{refl}
use Rattle.picture.specs.Texts.{close_text}
use Rattle.picture_code.proofs.texts.close_text.Goals as goal

pub returns : goal.returns
unfolding close_text
returns c = refl
