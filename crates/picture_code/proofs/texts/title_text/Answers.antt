-- `title_text` has these bytes, which both sides compute to.
use mathlib.Core.Path.{refl}
use Rattle.picture.specs.Texts.{title_text}
use Rattle.picture_code.proofs.texts.title_text.Goals as goal

pub returns : goal.returns
unfolding title_text
returns c = refl
