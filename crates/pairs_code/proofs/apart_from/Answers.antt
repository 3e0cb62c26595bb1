use mathlib.Core.Path.{◌≡◌, refl, ◌∙◌}
use lib.ListN.{length}
use native.Mathlib.Omega.{arith}
use Rattle.geometry.proofs.Rectangles.{meeting-apart, meeting-common}
use Rattle.rows.proofs.Layers.{sum-next}
use Rattle.pairs.proofs.Scanning.{met-more, met-not, met_all}
use Rattle.pairs_code.proofs.apart_from.Goals as goal

pub loop-j-init : goal.loop-j-init
loop-j-init c = record { reached = c.requires.reached; same = refl }

pub returns-in_default : goal.returns-in_default
returns-in_default c = met-not _ _ _ _ _ _ _ _ c.loop-j.invariant c.requires.row_value c.loop-j-test.true _ c.rect.ensures (meeting-apart _ _ _ c.meet.ensures c.in_default.is)

pub overflow_add-start : goal.overflow_add-start
overflow_add-start c = omega (arith, sum-next _ _ _ c.loop-j.invariant.reached c.loop-j-test.true, c.args.drawing.now.readable.whole)

pub loop-j-preserved : goal.loop-j-preserved
loop-j-preserved c = met-more _ _ _ _ _ _ _ _ c.loop-j.invariant c.requires.row_value c.loop-j-test.true _ c.rect.ensures (meeting-common _ _ _ c.meet.ensures _ _ c.in-Some.is).0

pub returns : goal.returns
returns c =
    let e : length c.args.drawing.now.sizes.now ≡ c.loop-j.j = omega (arith, c.requires.reached.within) in
    e ∙ met_all _ _ _ _ _ _ _ _ c.loop-j.invariant c.loop-j-test.false
