use Rattle.listing.proofs.Counts.{next-counted, next-count-room}
use borrow.Author.Rules.{rules}
use Rattle.listing_runs_code.proofs.class_lines.put_counts.Goals as goal

pub put_count-at-requires : goal.put_count-at-requires
put_count-at-requires c = search (rules, next-count-room)

pub loop-i-preserved : goal.loop-i-preserved
loop-i-preserved c = search (rules, next-counted)
