-- `up_to` is a range's test.
use borrow.Author.Rules.{rules}
use Rattle.text.specs.inner.Counting.{up_to}
use Rattle.reader.proofs.decide.up_to.Goals as goal

pub returns : goal.returns
unfolding up_to
returns c = search rules
