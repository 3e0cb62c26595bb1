-- `put_class_rows` has the line of each row put.
use mathlib.Core.List.{List, [], ◌∷◌}
use Prim.Native.Nat.{ℕ}
use lib.ListN.{take}
use Rattle.plan.specs.Plan.{layers_of}
use Rattle.crossings.specs.Crossings.{class_in}
use Rattle.rows.specs.Tables.{rows_in}
use Rattle.listing.proofs.Rows.{lines_each, rows_are, table-inside}
use Rattle.listing_runs_code.proofs.class_rows.put_class_rows.Goals as goal

pub put_rows-requires : goal.put_rows-requires
put_rows-requires c =
    let t = c.requires.table_rows in
    let ls = layers_of (take c.args.k c.args.sizes.now) c.args.cells.now in
    record {
      rows = (
        rows_are c.args.sizes.now c.args.k c.args.cells.now c.args.table.now c.args.n t.0 (λ row e. (t.0.inside, t.0.framed, t.1, e)),
        table-inside c.args.sizes.now c.args.k c.args.cells.now c.args.table.now c.args.n t.0,
      );
      fits_at = rw (lines_each (λ (r : List ℕ). class_in ls r ∷ []) ls (rows_in c.args.k c.args.n c.args.table.now)) c.requires.fits_at;
    }

pub returns : goal.returns
returns c =
    let ls = layers_of (take c.args.k c.args.sizes.now) c.args.cells.now in
    rw (← lines_each (λ (r : List ℕ). class_in ls r ∷ []) ls (rows_in c.args.k c.args.n c.args.table.now)) c.put_rows.ensures
