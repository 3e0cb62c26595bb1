-- `floats::signed`: the number below 0 is 0 less its size.
use Rattle.floats.proofs.Patterns.{zero-less-fits, zero-less-is, plain-is}
use Rattle.floats.proofs.signed.Goals as goal

pub overflow_sub-result : goal.overflow_sub-result
overflow_sub-result c = zero-less-fits c.args.size c.requires

pub returns-then-below : goal.returns-then-below
returns-then-below c = let e = c.if-below.true in rw e (zero-less-is c.args.size c.requires)

pub returns-else-below : goal.returns-else-below
returns-else-below c = let e = c.if-below.false in rw e (plain-is c.args.size c.requires)
