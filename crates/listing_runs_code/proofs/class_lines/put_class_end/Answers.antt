-- `put_class_end` puts the counts and the total.
use Rattle.printing.proofs.Puts.{room-first, room-second, put_both}
use borrow.Author.Rules.{rules}
use Rattle.listing_runs_code.proofs.class_lines.put_class_end.Goals as goal

pub put_counts-a-requires : goal.put_counts-a-requires
put_counts-a-requires c = search (rules, room-first)

pub put_total-requires : goal.put_total-requires
put_total-requires c = search (rules, room-second)

pub returns : goal.returns
returns c = search put_both
