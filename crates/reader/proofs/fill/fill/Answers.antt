use mathlib.Core.Path.{sym, ◌∙◌}
use native.Mathlib.Omega.{arith}
use Rattle.line.specs.Places.{Line-at}
use Rattle.line.proofs.Places.{line_on, line-bad}
use Rattle.text.proofs.Cells.{filling-start, filling-bad, filling-end, filling-room, filling-more}
use Rattle.reader.proofs.fill.fill.Goals as goal

pub loop-at-init : goal.loop-at-init
loop-at-init c = filling-start _ _ _ c.requires

pub shape_of-cells-in_default : goal.shape_of-cells-in_default
shape_of-cells-in_default c = c.loop-at.invariant.left.long

pub returns-in_default : goal.returns-in_default
returns-in_default c = filling-bad _ _ _ _ c.loop-at.at c.loop-at.i c.loop-at.invariant (omega arith) (line-bad _ _ (sym c.in_default.is ∙ c.read_line.ensures))

pub put_line-i-requires : goal.put_line-i-requires
put_line-i-requires c =
    let read : Line-at c.args.s.now c.loop-at.at c.in-Some.line c.in-Some.next = line_on _ _ _ _ (sym c.in-Some.is ∙ c.read_line.ensures) in
    filling-room _ _ _ _ _ _ c.loop-at.invariant _ _ read c.requires.fits

pub loop-at-smaller : goal.loop-at-smaller
loop-at-smaller c =
    let read : Line-at c.args.s.now c.loop-at.at c.in-Some.line c.in-Some.next = line_on _ _ _ _ (sym c.in-Some.is ∙ c.read_line.ensures) in
    omega (arith, read)

pub loop-at-preserved : goal.loop-at-preserved
loop-at-preserved c =
    let read : Line-at c.args.s.now c.loop-at.at c.in-Some.line c.in-Some.next = line_on _ _ _ _ (sym c.in-Some.is ∙ c.read_line.ensures) in
    filling-more _ _ _ _ _ _ c.loop-at.invariant _ _ read _ _ c.put_line-i.ensures

pub shape_of-cells : goal.shape_of-cells
shape_of-cells c = c.loop-at.invariant.left.long

pub returns : goal.returns
returns c = filling-end _ _ _ _ _ _ c.loop-at.invariant c.loop-at-test.false
