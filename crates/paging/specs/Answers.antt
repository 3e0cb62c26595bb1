-- The values of the calls' answers, a refusal with the paper's number (01, "The walk" and "Causes and their numbers"), and those that the code's answers have.
use Rattle.std.specs.Prelude.{ℕ, Result, Ok, Err}
use Rattle.totals.specs.declared.Total.{Total}
use Rattle.plan.specs.declared.cause.Cause.{Cause}
use Rattle.plan.specs.Causes.{number_of}
use Rattle.search.specs.Stops.{Stop, Ended, Full, Spent, Refused}
use Rattle.paging.specs.declared.Ticket.{Ticket}
use Rattle.paging.specs.declared.Stop.{Stop as StopSaid}
use Rattle.paging.specs.declared.Stop.TheVariants as said
use Rattle.paging.specs.declared.Page.{Page}
use Rattle.paging.specs.declared.Done.{Done}
use Rattle.paging.specs.Cursors.{ended_cursor}

-- the fresh-ticket call: the number of a refusal or 0, and the ticket of the first probe, or ended
pub record FreshValues : Type 0 where
  pub number : ℕ
  pub ticket : Ticket

-- the page call: why it stopped, its rows and probes, the sum of its rows' areas, and the ticket for what is due next
pub record PageValues : Type 0 where
  pub stop : Stop
  pub rows : ℕ
  pub probes : ℕ
  pub area : Total
  pub ticket : Ticket

-- the whole run: what it has done
abbrev pub Run : Type 0
Run = Result Done ℕ

abbrev pub ran : (rows probes : ℕ) (area ground : Total) → Run
ran rows probes area ground = Ok (record { rows = rows; probes = probes; area = area; ground = ground })

-- ---- the code's answers
-- 01: "the fresh-ticket call returns Ended" where it refuses
abbrev pub fresh_told : Result Ticket Cause → FreshValues
fresh_told (Ok t) = record { number = 0; ticket = t }
fresh_told (Err c) = record { number = number_of c; ticket = record { cursor = ended_cursor; count = 0 } }

abbrev pub stop_told : StopSaid → Stop
stop_told said.Ended = Ended
stop_told said.Full = Full
stop_told said.Spent = Spent
stop_told (said.Refused n) = Refused n

abbrev pub page_told : Page → PageValues
page_told p = record { stop = stop_told p.stop; rows = p.rows; probes = p.probes; area = p.area; ticket = p.ticket }
