-- `totals::nothing`.
use mathlib.Core.Path.{refl}
use Rattle.totals.specs.Totals.{total_of}
use Rattle.totals.proofs.nothing.Goals as goal

pub returns : goal.returns
unfolding total_of
returns c = refl
