-- `whole`: a number of 63 bits is itself with a sign.
use mir.Syntax.{w64}
use mir.Facts.{to_z_pos}
use Rattle.picture_code.proofs.numbers.whole.Goals as goal

pub returns : goal.returns
returns c = to_z_pos w64 c.requires
