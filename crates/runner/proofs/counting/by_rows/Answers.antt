-- `runner::counting::by_rows`: the ground of the rows in the table.
use mathlib.Core.Path.{sym}
use lib.Seq.{length-take-le}
use Rattle.ground_code.proofs.Tables.{ready-rows, ready-lefts}
use Rattle.runner.proofs.counting.by_rows.Goals as goal

pub slice_bounds-union_of_table-end-3 : goal.slice_bounds-union_of_table-end-3
slice_bounds-union_of_table-end-3 c = sym (length-take-le _ _ c.requires.1)

pub union_of_table-requires : goal.union_of_table-requires
union_of_table-requires c =
    let r = c.requires.0 in record {
      table_rows = (ready-rows _ _ _ _ _ r.inside r.framed r.test r.read, length-take-le _ _ c.requires.1);
      pairwise = ready-lefts c.args.shape.sizes c.args.shape.k c.args.cells.now c.args.table.now c.args.rows r.inside r.framed r.test r.read;
    }
