use native.Mathlib.Omega.{arith}
use borrow.Author.Rules.{rules}
use Rattle.picture.proofs.Frames.{no-ground, ground-more, ground-all}
use Rattle.picture_code.proofs.frames.ground_of.Goals as goal

pub returns-then-cells-eq0 : goal.returns-then-cells-eq0
returns-then-cells-eq0 c = search (rules, no-ground)

pub loop-i-init : goal.loop-i-init
loop-i-init c = (omega arith, search rules)

pub loop-i-preserved : goal.loop-i-preserved
loop-i-preserved c = (omega arith, search (rules, ground-more))

pub returns : goal.returns
returns c = search (rules, ground-all)
