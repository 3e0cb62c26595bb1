-- `put_hour_table` puts the rows and what follows them.
use Rattle.printing.proofs.Puts.{room-first, room-second, put_both}
use borrow.Author.Rules.{rules}
use Rattle.listing_runs_code.proofs.hour_lines.put_hour_table.Goals as goal

pub put_hour_rows-at-requires : goal.put_hour_rows-at-requires
put_hour_rows-at-requires c =
    record {
      table_rows = search (rules, room-first);
      fits_at = search (rules, room-first);
    }

pub put_total-requires : goal.put_total-requires
put_total-requires c = search (rules, room-second)

pub returns : goal.returns
returns c = search put_both
