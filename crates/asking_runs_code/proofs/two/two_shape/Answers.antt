-- `two_shape` takes the sizes and margins at the two places.
use borrow.Author.Rules.{rules}
use Rattle.asking.specs.Pairs.{two_shape}
use Rattle.asking_runs_code.proofs.two.two_shape.Goals as goal

pub returns : goal.returns
unfolding two_shape
returns c = search rules
