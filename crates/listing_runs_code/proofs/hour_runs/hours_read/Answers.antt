-- `hours_read` refuses a windows text that has a fault, and has the timed run made with any other.
use Rattle.outcomes.proofs.Outcomes.{told_same}
use Rattle.listing.proofs.Faults.{ready-few, ready-hours, fault-said, read-inside, read-said, read-part, read-two}
use borrow.Author.Rules.{rules}
use Rattle.listing_runs_code.proofs.hour_runs.hours_read.Goals as goal

pub read_windows-requires : goal.read_windows-requires
read_windows-requires c = search (rules, ready-few, ready-hours)

pub returns-in-Err : goal.returns-in-Err
returns-in-Err c = search (rules, told_same, fault-said)

pub slice_bounds-hours_table-end : goal.slice_bounds-hours_table-end
slice_bounds-hours_table-end c = search (rules, read-inside)

pub slice_bounds-hours_table-end-in-Ok : goal.slice_bounds-hours_table-end-in-Ok
slice_bounds-hours_table-end-in-Ok c = search (rules, read-part)

pub hours_table-requires : goal.hours_table-requires
hours_table-requires c = record { plan = search (rules, read-two); room = search rules }

pub returns-in-Ok : goal.returns-in-Ok
returns-in-Ok c = search (rules, told_same, read-said)
