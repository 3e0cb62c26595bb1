-- `crossings_code::is_unwidened`.
use mathlib.Core.Path.{refl}
use Rattle.crossings.specs.ClassCall.{unwidened}
use Rattle.crossings_code.proofs.is_unwidened.Goals as goal

pub returns : goal.returns
unfolding unwidened
returns c = refl
