-- `crossings_code::rect_in`: the row's place in its layer, which lies behind the rectangles of the earlier ones.
use mathlib.Core.Path.{◌∙◌}
use native.Mathlib.Omega.{arith}
use lib.Seq.{length-take-le}
use Rattle.rows_code.specs.Reading.{widened}
use Rattle.crossings.proofs.Reading.{reached-at, row_fits, row-rect}
use Rattle.crossings_code.proofs.rect_in.Goals as goal

pub sum_of-start-requires : goal.sum_of-start-requires
sum_of-start-requires c =
    let d = c.args.drawing.now in omega (arith, length-take-le c.args.j d.sizes.now (omega (arith, c.requires.j_in_bounds)), d.readable.framed.few, c.requires.j_in_bounds)

pub rect-requires : goal.rect-requires
rect-requires c =
    let d = c.args.drawing.now in
    record {
      reached = (reached-at d.sizes.now c.args.j _ (omega (arith, c.requires.j_in_bounds)) c.sum_of-start.ensures, c.requires.j_in_bounds);
      row_value = row_fits d.sizes.now (widened d.sizes.now d.margins.now d.cells.now) c.args.row.now c.requires.row_value;
    }

pub returns : goal.returns
returns c =
    let d = c.args.drawing.now in
    c.rect.ensures ∙ row-rect d.sizes.now (widened d.sizes.now d.margins.now d.cells.now) c.args.row.now c.requires.row_value c.args.j _ c.requires.j_in_bounds c.sum_of-start.ensures
