-- `signed` gives a magnitude its sign.
use native.Mathlib.Omega.{arith}
use lib.IntN.{pos, ◌-ℤ◌}
use mir.Syntax.{w32}
use mir.Val.{SFits}
use mir.Facts.{to_z-of_z, to_z_pos}
use Rattle.decimal.proofs.Signs.{below-zero, below-fits}
use Rattle.lexer.proofs.numbers.signed.Goals as goal

pub overflow_sub-result : goal.overflow_sub-result
overflow_sub-result c = rw (to_z_pos w32 {n = c.args.n} (omega arith)) (below-fits c.args.n c.requires)

pub returns-then-minus : goal.returns-then-minus
returns-then-minus c =
    let f : SFits w32 (pos 0 -ℤ pos c.args.n) = below-fits c.args.n c.requires in
    rw (c.if-minus.true, to_z_pos w32 {n = c.args.n} (omega arith), to_z-of_z f, below-zero c.args.n)

pub returns : goal.returns
returns c = rw c.if-minus.false (to_z_pos w32 (omega arith))
