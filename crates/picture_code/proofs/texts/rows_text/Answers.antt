-- `rows_text` has these bytes, which both sides compute to.
use mathlib.Core.Path.{refl}
use Rattle.picture.specs.Texts.{rows_text}
use Rattle.picture_code.proofs.texts.rows_text.Goals as goal

pub returns : goal.returns
unfolding rows_text
returns c = refl
