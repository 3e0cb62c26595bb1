-- A round's tickets and pages as cells: how the C interface lays them out. Those of client 1 come first; a ticket has twelve cells, a page five (crate cells).
use Rattle.std.specs.Prelude.{List, cond, ℕ, ◌-◌, ◌*◌, leb, get_or, take, drop}
use Rattle.lists.specs.Lists.{each, upto}
use Rattle.plan.specs.Causes.{on_cause}
use Rattle.paging.specs.Answers.{PageValues}
use Rattle.paging.specs.declared.Ticket.{Ticket}
use Rattle.paging.specs.Cursors.{ended_cursor}
use Rattle.rounds.specs.Rounds.{idle_page}
use Rattle.c_cells.specs.Cells.{ticket_cells, ticket_in, page_cells}

-- the cells of client t's ticket
abbrev pub twelve_of : List ℕ → (t : ℕ) → List ℕ
twelve_of cells t = take 12 (drop ((t - 1) * 12) cells)

-- the tickets in cells
unfoldable pub tickets_in : List ℕ → List Ticket
tickets_in cells = upto (λ t. ticket_in (twelve_of cells t)) 1 16

-- client t's page
abbrev pub page_in : List PageValues → (t : ℕ) → PageValues
page_in pages t = get_or pages (t - 1) (idle_page (record { cursor = ended_cursor; count = 0 }))

-- the cells of the pages: why it stopped, rows, probes, metres and rest of the area sum, of each
unfoldable pub round_cells : List PageValues → List ℕ
round_cells pages = each (λ t. page_cells (page_in pages t)) 1 16

-- the tickets' cells after a round that told this number: the ticket for what is due next to each of m clients; past m, and after a refusal, what they were
unfoldable pub tickets_after : List ℕ → (m number : ℕ) → List PageValues → List ℕ
tickets_after given m number pages = on_cause number (each (λ t. cond (leb t m) (ticket_cells (page_in pages t).ticket) (twelve_of given t)) 1 16) (λ n. given)
