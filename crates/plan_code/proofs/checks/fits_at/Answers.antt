-- `plan_code::checks::fits_at`.
use Rattle.std.proofs.Common.{arith, ◌∙◌}
use lib.Dec.{leb, ltb}
use borrow.Author.Tests.{lt-ltb, le-ltb, lt-leb}
use Rattle.plan.proofs.Plan.{fit-large, fit-lower, fit-past}
use Rattle.plan_code.proofs.checks.fits_at.Goals as goal

pub returns-then-j-k : goal.returns-then-j-k
returns-then-j-k c = lt-ltb _ _ c.if-j-k.true ∙ fit-lower _ _ _ _ (omega arith) (omega arith)

pub returns-else-j-k : goal.returns-else-j-k
returns-else-j-k c = fit-past _ _ _ _ (omega arith) (omega arith)

pub returns-else-n-most : goal.returns-else-n-most
returns-else-n-most c = lt-leb _ _ c.if-n-most.false ∙ fit-large _ _ _ _ (omega arith)
