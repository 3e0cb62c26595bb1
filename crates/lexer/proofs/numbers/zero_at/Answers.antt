-- `zero_at` tells 0 where no minus stands before it.
use Rattle.lexer.proofs.numbers.zero_at.Goals as goal

pub returns : goal.returns
returns c = rw c.if-minus.false
