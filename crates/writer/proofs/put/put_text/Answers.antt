-- `put_text` writes the PLAN line, and the layers behind it.
use mathlib.Core.Path.{sym, ◌∙◌}
use native.Mathlib.Omega.{arith}
use lib.Seq.{length-take-le}
use Rattle.pens.proofs.Pens.{writing}
use Rattle.plan.proofs.Plan.{checked, front-sum}
use Rattle.text.specs.Plans.{plan_lines, text_of}
use Rattle.writer.proofs.put.put_text.Goals as goal

pub put_plan_line-requires : goal.put_plan_line-requires
unfolding text_of plan_lines
put_plan_line-requires c = grind (arith, writing)

pub shared_ref_as_front-put_layers : goal.shared_ref_as_front-put_layers
shared_ref_as_front-put_layers c = omega (arith, (checked c.args.shape c.args.cells.now c.requires.0).high, c.requires.0.typed.sizes)

pub put_layers-requires : goal.put_layers-requires
unfolding text_of plan_lines
put_layers-requires c =
    let p = c.args.shape in
    let cells = c.args.cells.now in
    let h = checked p cells c.requires.0 in
    let sizes = length-take-le p.k p.sizes (omega (arith, h.high, c.requires.0.typed.sizes)) in
    let margins = length-take-le p.k p.margins (omega (arith, h.high, c.requires.0.typed.margins)) in
    record {
      sizes_len = (margins ∙ sym sizes, omega (arith, h.whole, front-sum p cells h));
      room = grind (arith, writing);
    }

pub returns : goal.returns
unfolding text_of plan_lines
returns c = grind (arith, writing)
