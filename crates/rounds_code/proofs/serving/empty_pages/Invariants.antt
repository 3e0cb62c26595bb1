-- `rounds_code::serving::empty_pages`. The invariant: the first i pages are those of the first i tickets.
use mathlib.Core.List.{map}
use Rattle.paging.specs.Answers.{stop_told, page_told}
use Rattle.rounds_code.proofs.Pages.{Emptied}
use Rattle.rounds_code.proofs.serving.empty_pages.Given as goal

abbrev pub invariant-loop-i : goal.invariant-loop-i
invariant-loop-i l = Emptied (stop_told l.stop) l.fn.tickets (map page_told l.pages) l.i
