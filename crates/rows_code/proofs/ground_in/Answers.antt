-- `rows_code::ground_in`: cells that do not fit, and what the rectangles of those that do share.
use mathlib.Core.Path.{sym, ◌∙◌}
use Rattle.rows.proofs.Answers.{ground-misfit, ground-fit}
use Rattle.rows_code.specs.Reading.{widened}
use Rattle.rows_code.proofs.ground_in.Goals as goal

pub returns-then-not-all_fit : goal.returns-then-not-all_fit
returns-then-not-all_fit c =
    let d = c.args.drawing.now in
    ground-misfit d.sizes.now (widened d.sizes.now d.margins.now d.cells.now) c.args.row.now (sym c.all_fit.ensures ∙ c.if-not-all_fit.true)

pub share-requires : goal.share-requires
share-requires c = sym c.all_fit.ensures ∙ c.if-not-all_fit.false

pub returns : goal.returns
returns c =
    let d = c.args.drawing.now in
    ground-fit d.sizes.now (widened d.sizes.now d.margins.now d.cells.now) c.args.row.now (sym c.all_fit.ensures ∙ c.if-not-all_fit.false) _ c.share.ensures
