use mathlib.Core.Path.{refl, sym, ap, ◌∙◌}
use Prim.Native.Nat.{◌+◌}
use native.Mathlib.Omega.{arith}
use Rattle.plan.specs.Plan.{rect_at}
use Rattle.crossings.specs.ClassCall.{lies}
use Rattle.lists.proofs.Tests.{below_more, below-not, below_end}
use Rattle.crossings_code.specs.Lies.{is_level}
use Rattle.crossings_code.proofs.all_lie.Goals as goal

pub loop-i-init : goal.loop-i-init
loop-i-init c = (omega arith, refl)

pub overflow_add-start : goal.overflow_add-start
overflow_add-start c = omega (arith, c.requires)

pub rect_at-requires : goal.rect_at-requires
rect_at-requires c = omega (arith, c.requires)

pub is_segment-requires : goal.is_segment-requires
is_segment-requires c = tt

pub returns-then-not-is_segment : goal.returns-then-not-is_segment
returns-then-not-is_segment c =
    below-not (λ p. lies (is_level c.args.lie) (rect_at c.args.cells.now (c.args.start + p))) c.args.size c.loop-i.i c.loop-i-test.true
    (ap (lies (is_level c.args.lie)) (sym c.rect_at.ensures) ∙ (sym c.is_segment.ensures ∙ c.if-not-is_segment.true))

pub loop-i-preserved : goal.loop-i-preserved
loop-i-preserved c = (
  omega arith,
  below_more (λ p. lies (is_level c.args.lie) (rect_at c.args.cells.now (c.args.start + p))) c.loop-i.i c.loop-i.invariant.1
      (ap (lies (is_level c.args.lie)) (sym c.rect_at.ensures) ∙ (sym c.is_segment.ensures ∙ c.if-not-is_segment.false)),
)

pub returns : goal.returns
returns c = below_end (λ p. lies (is_level c.args.lie) (rect_at c.args.cells.now (c.args.start + p))) c.loop-i.i c.args.size c.loop-i.invariant.1 c.loop-i.invariant.0 c.loop-i-test.false
