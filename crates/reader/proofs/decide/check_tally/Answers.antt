-- `check_tally`: a case for each test, with what the tests before it found.
use mathlib.Core.Path.{sym, ◌∙◌}
use mathlib.Core.Bool.{true, false}
use mir.Syntax.{w32}
use mir.Val.{SFits}
use mir.Facts.{to_z-of_z}
use borrow.Author.Tests.{not-true, not-false}
use Rattle.text.proofs.Counting.{cause-unformed, cause-spoilt, cause-due, cause-layers}
use Rattle.reader.proofs.decide.check_tally.Goals as goal
use Rattle.reader.proofs.decide.check_tally.Goals.{then-not-t-2-via-then-not-t-2, then-not-t-2-via-else-not-t-2+then-t-ne0, then-not-t-2-via-else-not-t-2+else-t-ne0+then-not-layers_right}

pub returns-then-not-t : goal.returns-then-not-t
returns-then-not-t c = cause-unformed _ _ (not-true _ c.if-not-t.true)

pub returns-then-not-t-2 : goal.returns-then-not-t-2
returns-then-not-t-2 c =
    let f : SFits w32 c.args.k = c.ranges.k in
    elim c.then-not-t-2.branch [
      | then-not-t-2-via-then-not-t-2 w ↦ cause-spoilt _ _ (not-false _ c.if-not-t.false) (not-true _ w.if-not-t-2.true)
      | then-not-t-2-via-else-not-t-2+then-t-ne0 w ↦ cause-due _ _ (not-false _ c.if-not-t.false) (not-false _ w.if-not-t-2.false) w.if-t-ne0.true
      | then-not-t-2-via-else-not-t-2+else-t-ne0+then-not-layers_right w ↦ cause-layers _ _ (not-false _ c.if-not-t.false) (not-false _ w.if-not-t-2.false) w.if-t-ne0.false false
          (sym (simp to_z-of_z at w.layers_right.ensures) ∙ w.if-not-layers_right.true)
    ]

pub returns : goal.returns
returns c =
    let f : SFits w32 c.args.k = c.ranges.k in
    cause-layers _ _ (not-false _ c.if-not-t.false) (not-false _ c.if-not-t-2.false) c.if-t-ne0.false true
    (sym (simp to_z-of_z at c.layers_right.ensures) ∙ c.if-not-layers_right.false)
