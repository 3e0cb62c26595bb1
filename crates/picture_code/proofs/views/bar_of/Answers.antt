-- `bar_of` asks for the longest first.
use native.Mathlib.Omega.{arith}
use borrow.Author.Rules.{rules}
use Rattle.picture.proofs.Frames.{bar-1, bar-2, bar-3, bar-4, bar-5, bar-6}
use Rattle.picture_code.proofs.views.bar_of.Goals as goal

pub returns-then-unit-ge25000 : goal.returns-then-unit-ge25000
returns-then-unit-ge25000 c = search (rules, bar-1)

pub returns-then-unit-ge2500 : goal.returns-then-unit-ge2500
returns-then-unit-ge2500 c = bar-2 c.args.unit (omega arith) (omega arith)

pub returns-then-unit-ge250 : goal.returns-then-unit-ge250
returns-then-unit-ge250 c = bar-3 c.args.unit (omega arith) (omega arith) (omega arith)

pub returns-then-unit-ge25 : goal.returns-then-unit-ge25
returns-then-unit-ge25 c = bar-4 c.args.unit (omega arith) (omega arith) (omega arith) (omega arith)

pub returns-then-unit-ge3 : goal.returns-then-unit-ge3
returns-then-unit-ge3 c = bar-5 c.args.unit (omega arith) (omega arith) (omega arith) (omega arith) (omega arith)

pub returns : goal.returns
returns c = bar-6 c.args.unit (omega arith) (omega arith) (omega arith) (omega arith) (omega arith)
