-- `hours_table` has the timed run made.
use borrow.Author.Rules.{rules}
use Rattle.listing.proofs.Hours.{ran}
use Rattle.listing_runs_code.proofs.hour_runs.hours_table.Goals as goal

pub hours_told-requires : goal.hours_told-requires
hours_told-requires c = search (rules, ran)
