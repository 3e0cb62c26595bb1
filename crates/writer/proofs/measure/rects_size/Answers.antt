use mathlib.Core.Path.{◌≡◌, ap, ◌∙◌}
use mathlib.Core.List.{[]}
use native.Mathlib.Omega.{arith}
use lib.ListN.{length}
use Rattle.geometry.specs.declared.Rect.{Rect}
use Rattle.plan.specs.Plan.{rect_at}
use Rattle.line.specs.declared.Line.TheVariants.{Rectangle}
use Rattle.line.specs.Lines.{spell_to}
use Rattle.text.proofs.Lengths.{measuring-start, measuring-short, measuring-few, measuring-more, measuring-end}
use Rattle.writer.proofs.measure.rects_size.Goals as goal

pub loop-p-init : goal.loop-p-init
loop-p-init c = (omega arith, measuring-start _ c.requires.2)

pub rect_at-requires : goal.rect_at-requires
rect_at-requires c = omega (arith, c.requires.0)

pub rect_line_size-size-requires : goal.rect_line_size-size-requires
rect_line_size-size-requires c = rw c.rect_at.ensures (measuring-short _ _ _ c.loop-p.p c.requires.0 c.loop-p.invariant.1 c.loop-p-test.true)

pub overflow_add-size : goal.overflow_add-size
overflow_add-size c =
    let line : c.rect_line_size-size.result ≡ length (spell_to (Rectangle (rect_at c.args.cells.now c.loop-p.p)) []) = c.rect_line_size-size.ensures ∙ ap (λ (r : Rect). length (spell_to (Rectangle r) [])) c.rect_at.ensures in
    omega (arith, line, c.requires.1, measuring-few _ _ _ c.loop-p.p c.requires.0 c.loop-p.invariant.1 c.loop-p-test.true)

pub loop-p-preserved : goal.loop-p-preserved
loop-p-preserved c =
    let line : c.rect_line_size-size.result ≡ length (spell_to (Rectangle (rect_at c.args.cells.now c.loop-p.p)) []) = c.rect_line_size-size.ensures ∙ ap (λ (r : Rect). length (spell_to (Rectangle r) [])) c.rect_at.ensures in
    (omega arith, rw line (measuring-more _ _ _ c.loop-p.p c.requires.0 c.loop-p.invariant.1 c.loop-p-test.true))

pub returns : goal.returns
returns c = measuring-end _ _ c.loop-p.p (omega (arith, c.requires.0)) c.loop-p.invariant.1
