-- `floats::is_near`: both bounds, the lower one first.
use mathlib.Core.Path.{sym, ◌∙◌}
use Rattle.floats.proofs.Patterns.{le-highest, lowest-le}
use Rattle.floats.proofs.is_near.Goals as goal

pub returns-then-x : goal.returns-then-x
returns-then-x c = let x = c.args.x in let e = sym (lowest-le x) ∙ c.if-x.true in rw e (le-highest x)

pub returns-else-x : goal.returns-else-x
returns-else-x c = let x = c.args.x in let e = sym (lowest-le x) ∙ c.if-x.false in c.if-x.false ∙ rw e
