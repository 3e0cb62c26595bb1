-- `point_text` has these bytes, which both sides compute to.
use mathlib.Core.Path.{refl}
use Rattle.picture.specs.Texts.{point_text}
use Rattle.picture_code.proofs.texts.point_text.Goals as goal

pub returns : goal.returns
unfolding point_text
returns c = refl
