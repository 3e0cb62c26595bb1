-- `put_count` puts a line where there is something to count.
use Rattle.printing.proofs.Puts.{put_same}
use Rattle.listing.proofs.Counts.{no-count, some-count, count_room}
use borrow.Author.Rules.{rules}
use Rattle.listing_runs_code.proofs.class_lines.put_count.Goals as goal

pub returns-then-count-eq0 : goal.returns-then-count-eq0
returns-then-count-eq0 c = search (rules, no-count)

pub put_class_line-requires : goal.put_class_line-requires
put_class_line-requires c = search (rules, count_room)

pub returns : goal.returns
returns c = search (rules, put_same, some-count)
