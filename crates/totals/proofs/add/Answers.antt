-- `totals::add`.
use borrow.Author.Rules.{rules}
use mathlib.Core.Path.{refl}
use Rattle.totals.proofs.Totals.{more-rest, more-metres}
use Rattle.totals.proofs.add.Goals as goal

pub returns-then-sum-lt-METRE : goal.returns-then-sum-lt-METRE
returns-then-sum-lt-METRE c = more-rest c.args.t c.args.area _ refl (search rules)

pub returns : goal.returns
returns c = more-metres c.args.t c.args.area _ refl
