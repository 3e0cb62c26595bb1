use mathlib.Core.Path.{◌∙◌}
use native.Mathlib.Omega.{arith}
use Rattle.rows.proofs.Layers.{reached-none}
use Rattle.rows.proofs.Grounds.{through-none, through-first, through-more, through-stop}
use Rattle.rows_code.proofs.share.Goals as goal

pub rect-requires : goal.rect-requires
rect-requires c = record {
  reached = (reached-none _, omega (arith, c.args.drawing.now.readable.framed.some));
  row_value = c.requires;
}

pub returns-in_err-g : goal.returns-in_err-g
returns-in_err-g c = absurd (through-none _ _ _ _ c.args.drawing.now.readable.framed c.requires c.rect.ensures c.in_err-g.ensures)

pub loop-j-init : goal.loop-j-init
loop-j-init c = through-first _ _ _ _ _ c.args.drawing.now.readable.framed c.requires c.rect.ensures c.in_ok-g.ensures

pub returns-in_err-g-2 : goal.returns-in_err-g-2
returns-in_err-g-2 c = c.from_residual-in_err-g-2.ensures ∙ through-stop _ _ _ _ _ _ c.loop-j.invariant c.requires c.loop-j-test.true _ c.rect-in-loop-j.ensures c.in_err-g-2.ensures

pub loop-j-preserved : goal.loop-j-preserved
loop-j-preserved c = through-more _ _ _ _ _ _ c.loop-j.invariant c.requires c.loop-j-test.true _ c.rect-in-loop-j.ensures _ c.in_ok-g-2.ensures
