-- `pairs_code::pair_in`: places that do not fit, and the first pair of those that do.
use mathlib.Core.Path.{sym, ◌∙◌}
use Rattle.rows_code.specs.Reading.{widened}
use Rattle.pairs.proofs.Scanning.{told-misfit, told_fit}
use Rattle.pairs_code.proofs.pair_in.Goals as goal

pub returns-then-not-all_fit : goal.returns-then-not-all_fit
returns-then-not-all_fit c =
    let d = c.args.drawing.now in
    told-misfit d.sizes.now (widened d.sizes.now d.margins.now d.cells.now) c.args.row.now (sym c.all_fit.ensures ∙ c.if-not-all_fit.true)

pub first_pair-requires : goal.first_pair-requires
first_pair-requires c = sym c.all_fit.ensures ∙ c.if-not-all_fit.false

pub returns : goal.returns
returns c =
    let d = c.args.drawing.now in
    told_fit d.sizes.now (widened d.sizes.now d.margins.now d.cells.now) c.args.row.now (sym c.all_fit.ensures ∙ c.if-not-all_fit.false) _ c.first_pair.ensures
