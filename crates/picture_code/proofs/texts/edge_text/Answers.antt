-- `edge_text` has these bytes, which both sides compute to.
use mathlib.Core.Path.{refl}
use Rattle.picture.specs.Texts.{edge_text}
use Rattle.picture_code.proofs.texts.edge_text.Goals as goal

pub returns : goal.returns
unfolding edge_text
returns c = refl
