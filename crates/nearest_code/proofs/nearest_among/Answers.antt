use mathlib.Core.Path.{◌≡◌, sym, ◌∙◌, ap, subst}
use mathlib.Core.Logic.{inl, inr}
use native.Mathlib.Omega.{arith}
use Rattle.geometry.specs.declared.Rect.{Rect}
use Rattle.geometry.specs.Rectangles.{in_extent}
use Rattle.plan.specs.Plan.{rect_at}
use Rattle.nearest.specs.Nearest.{squared_gap, nearest_to}
use Rattle.nearest.specs.inner.Parts.{Within}
use Rattle.nearest.proofs.Answers.{near_none, found_first, found-step}
use Rattle.nearest_code.proofs.nearest_among.Goals as goal
use Rattle.nearest_code.proofs.nearest_among.Goals.{then-gap-least, else-gap-least}

pub returns-then-size-eq0 : goal.returns-then-size-eq0
returns-then-size-eq0 c = near_none _ _ ∙ ap (nearest_to _ _) (sym c.if-size-eq0.true)

pub rect_at-requires : goal.rect_at-requires
rect_at-requires c = omega (arith, c.requires.part.whole)

pub squared_gap-least-requires : goal.squared_gap-least-requires
squared_gap-least-requires c =
    record {
      a_value = c.requires.around_value;
      r_value = ap in_extent c.rect_at.ensures ∙ c.requires.part.ranged _ (omega (arith, c.if-size-eq0.false));
    }

pub loop-p-init : goal.loop-p-init
loop-p-init c = found_first _ _ _ _ (omega (arith, c.if-size-eq0.false)) (c.squared_gap-least.ensures ∙ ap (squared_gap _) c.rect_at.ensures)

pub rect_at-requires-in-loop-p : goal.rect_at-requires-in-loop-p
rect_at-requires-in-loop-p c = omega (arith, c.requires.part.whole)

pub gap_within-gap-requires : goal.gap_within-gap-requires
gap_within-gap-requires c =
    record {
      a_value = c.requires.around_value;
      r_value = ap in_extent c.rect_at-in-loop-p.ensures ∙ c.requires.part.ranged _ c.loop-p-test.true;
    }

pub loop-p-preserved : goal.loop-p-preserved
loop-p-preserved c =
    let a = c.args in
    let w : Within c.loop-p.least (squared_gap a.around (rect_at a.cells.now c.loop-p.p)) c.gap_within-gap.result = subst (λ (z : Rect). Within c.loop-p.least (squared_gap a.around z) c.gap_within-gap.result) c.rect_at-in-loop-p.ensures c.gap_within-gap.ensures in
    found-step a.around (rect_at a.cells.now) a.size _ _ _ c.loop-p.invariant c.loop-p-test.true _ w _ _ (elim c.if-gap-least.branch [ then-gap-least w ↦ inl (w.if-gap-least.true, w.least-is, w.place-is) | else-gap-least w ↦ inr (w.if-gap-least.false, w.least-is, w.place-is) ])

pub overflow_cast-result : goal.overflow_cast-result
overflow_cast-result c = let i = c.loop-p.invariant in omega (arith, i.before, i.within, c.requires.part.small)

pub returns : goal.returns
returns c =
    let l = c.loop-p in
    let e : l.p ≡ c.args.size = omega (arith, l.invariant.within, c.loop-p-test.false) in
    l.invariant.is ∙ ap (nearest_to _ _) e
