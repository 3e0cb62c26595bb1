-- `text_size` adds up the PLAN line, the LAYER lines and the RECT lines.
use mathlib.Core.Path.{sym, ◌∙◌}
use native.Mathlib.Omega.{arith}
use lib.Seq.{length-take-le}
use Rattle.plan.proofs.Plan.{checked}
use Rattle.line.proofs.Lengths.{plan-most}
use Rattle.text.proofs.Text.{Measured, measured}
use Rattle.writer.proofs.measure.text_size.Goals as goal

pub shared_ref_as_front-layers_size : goal.shared_ref_as_front-layers_size
shared_ref_as_front-layers_size c = omega (arith, (checked c.args.shape c.args.cells.now c.requires).high, c.requires.typed.sizes)

pub layers_size-requires : goal.layers_size-requires
layers_size-requires c =
    let h = checked c.args.shape c.args.cells.now c.requires in
    let sizes = length-take-le c.args.shape.k c.args.shape.sizes (omega (arith, h.high, c.requires.typed.sizes)) in
    let margins = length-take-le c.args.shape.k c.args.shape.margins (omega (arith, h.high, c.requires.typed.margins)) in
    (margins ∙ sym sizes, omega (arith, sizes, h.high))

pub overflow_add-result : goal.overflow_add-result
overflow_add-result c =
    let sound : Measured c.args.shape c.args.cells.now = measured c.args.shape c.args.cells.now c.requires in
    omega (arith, c.plan_line_size.ensures, plan-most c.args.shape.k, c.layers_size.ensures, sound.layers)

pub rects_size-requires : goal.rects_size-requires
rects_size-requires c =
    let sound : Measured c.args.shape c.args.cells.now = measured c.args.shape c.args.cells.now c.requires in
    let m = sound in
    (m.whole, m.few, m.short)

pub overflow_add-result-2 : goal.overflow_add-result-2
overflow_add-result-2 c =
    let sound : Measured c.args.shape c.args.cells.now = measured c.args.shape c.args.cells.now c.requires in
    omega (arith, c.plan_line_size.ensures, plan-most c.args.shape.k, c.layers_size.ensures, sound.layers, c.rects_size.ensures, sound.rects)

pub returns : goal.returns
returns c =
    let sound : Measured c.args.shape c.args.cells.now = measured c.args.shape c.args.cells.now c.requires in
    omega (arith, c.plan_line_size.ensures, c.layers_size.ensures, c.rects_size.ensures, sound.text)
