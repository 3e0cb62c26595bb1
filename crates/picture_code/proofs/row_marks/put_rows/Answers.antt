-- `put_rows` has each row drawn.
use lib.ListN.{take}
use Rattle.plan.specs.Plan.{layers_of}
use Rattle.pens.specs.Pens.{place, capacity}
use Rattle.pens.proofs.Pens.{wrote-put}
use Rattle.rows.specs.Tables.{rows_in}
use Rattle.listing.proofs.Rows.{rows_are, table-inside}
use Rattle.picture.proofs.Marks.{parts_each}
use Rattle.picture_code.proofs.row_marks.put_rows.Goals as goal

pub put_rows-pen-requires : goal.put_rows-pen-requires
unfolding place capacity
put_rows-pen-requires c =
    let t = c.requires.table_rows in
    record {
      rows = (
        rows_are c.args.sizes.now c.args.k c.args.cells.now c.args.table.now c.args.n t.0 (λ row e. (t.0.inside, t.0.framed, t.1, e)),
        table-inside c.args.sizes.now c.args.k c.args.cells.now c.args.table.now c.args.n t.0,
      );
      fits_at =
          rw (parts_each c.args.unit (layers_of (take c.args.k c.args.sizes.now) c.args.cells.now) (rows_in c.args.k c.args.n c.args.table.now)) (record { fits = c.requires.room });
    }

pub returns : goal.returns
returns c =
    wrote-put _ _ _ _
    (rw (← parts_each c.args.unit (layers_of (take c.args.k c.args.sizes.now) c.args.cells.now) (rows_in c.args.k c.args.n c.args.table.now)) c.put_rows-pen.ensures)
