-- `put_class_table` puts the rows and what follows them.
use Rattle.printing.proofs.Puts.{room-first, room-second, put_both}
use borrow.Author.Rules.{rules}
use Rattle.listing_runs_code.proofs.class_lines.put_class_table.Goals as goal

pub put_class_rows-at-requires : goal.put_class_rows-at-requires
put_class_rows-at-requires c =
    record {
      table_rows = search (rules, room-first);
      fits_at = search (rules, room-first);
    }

pub put_class_end-requires : goal.put_class_end-requires
put_class_end-requires c = search (rules, room-second)

pub returns : goal.returns
returns c = search put_both
