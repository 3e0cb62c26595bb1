-- `put_classed` puts the row's line and, over the byte that ended it, its class.
use native.Mathlib.Omega.{arith}
use lib.ListN.{take}
use lib.Seq.{length-take-le}
use Rattle.rows_code.proofs.Reading.{readable-none}
use Rattle.crossings_code.proofs.Grown.{row-none, class-none}
use Rattle.listing.proofs.Lines.{classed-first, classed-some, classed-last, classed-more}
use borrow.Author.Rules.{rules}
use Rattle.listing_runs_code.proofs.class_rows.put_classed.Goals as goal

pub put_joined-end-requires : goal.put_joined-end-requires
put_joined-end-requires c =
    record {
      k_in_bounds = search (rules, classed-first);
      row_value = search (rules, classed-first);
      fits_at = search (rules, classed-first);
    }

pub invariant_of-drawing : goal.invariant_of-drawing
invariant_of-drawing c = record { readable = readable-none _ _ c.requires.k_in_bounds.1 }

pub row_class-class-requires : goal.row_class-class-requires
row_class-class-requires c = record {
  three = omega (arith, length-take-le _ _ c.requires.k_in_bounds.0, c.requires.k_in_bounds.2);
  row_value = row-none (take c.args.k c.args.sizes.now) c.args.cells.now c.args.row.now c.requires.row_value;
}

pub overflow_sub-end : goal.overflow_sub-end
overflow_sub-end c = search (rules, classed-some)

pub put_last-requires : goal.put_last-requires
put_last-requires c = search (rules, class-none, classed-last)

pub returns : goal.returns
returns c = search (rules, class-none, classed-more)
