use borrow.Author.Rules.{rules}
use Rattle.printing.proofs.Rows.{row-there, is-row, next-row-room, next_row, all-printed}
use Rattle.printing_code.proofs.lines.put_rows.Goals as goal

pub row_at-requires : goal.row_at-requires
row_at-requires c = search (rules, row-there)

pub put_joined-requires : goal.put_joined-requires
put_joined-requires c =
    record {
      k_in_bounds = search rules;
      row_value = search (rules, is-row);
      room = search (rules, next-row-room);
    }

pub loop-preserved : goal.loop-preserved
loop-preserved c = search (rules, next_row)

pub returns : goal.returns
returns c = search (rules, all-printed)
