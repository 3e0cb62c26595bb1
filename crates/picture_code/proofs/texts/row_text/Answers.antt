-- `row_text` has these bytes, which both sides compute to.
use mathlib.Core.Path.{refl}
use Rattle.picture.specs.Texts.{row_text}
use Rattle.picture_code.proofs.texts.row_text.Goals as goal

pub returns : goal.returns
unfolding row_text
returns c = refl
