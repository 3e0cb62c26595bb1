-- `put_natural` puts the digits into the pen's buffer.
use Rattle.pens.specs.Pens.{place, capacity}
use Rattle.pens.proofs.Pens.{wrote-put}
use Rattle.speller.proofs.numbers.put_natural.Goals as goal

pub put_decimal-pen-requires : goal.put_decimal-pen-requires
unfolding place capacity
put_decimal-pen-requires c = c.requires

pub returns : goal.returns
returns c = wrote-put _ _ _ _ c.put_decimal-pen.ensures
