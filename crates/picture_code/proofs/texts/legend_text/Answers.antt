-- `legend_text` has these bytes, which both sides compute to.
use mathlib.Core.Path.{refl}
use Rattle.picture.specs.Texts.{legend_text}
use Rattle.picture_code.proofs.texts.legend_text.Goals as goal

pub returns : goal.returns
unfolding legend_text
returns c = refl
