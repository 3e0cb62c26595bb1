-- `c_rounds_codec::tickets_in`. The invariant: the first i tickets are read.
use Rattle.std.proofs.Common.{◌≡◌, ℕ, ◌<◌, ◌+◌, length, get_or}
use Rattle.c_cells.specs.Cells.{ticket_in}
use Rattle.c_rounds.specs.RoundCells.{twelve_of}
use Rattle.c_rounds_codec.proofs.tickets_in.Given as goal

abbrev pub invariant-loop-i : goal.invariant-loop-i
invariant-loop-i l = (length l.ticket-items ≡ 16) × ((k : ℕ) → k < l.i → get_or l.ticket-items k (ticket_in (twelve_of l.cells 1)) ≡ ticket_in (twelve_of l.cells (1 + k)))
