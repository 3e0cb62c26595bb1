-- `c_rounds_codec::tickets_after`. The invariant: the cells of the first i tickets stand at the start.
use borrow.Author.Rules.{rules}
use mathlib.Core.Path.{◌≡◌, refl, ap, ◌∙◌}
use mathlib.Core.Bool.{cond}
use Prim.Native.Nat.{◌-◌, ◌≤◌}
use native.Mathlib.Omega.{arith}
use lib.Dec.{leb}
use lib.ListN.{length}
use mathlib.Core.List.{map}
use Rattle.paging.specs.Answers.{page_told}
use Rattle.paging.specs.Answers.{PageValues}
use Rattle.c_cells.specs.Cells.{ticket_cells}
use Rattle.c_rounds.specs.RoundCells.{page_in, twelve_of}
use Rattle.c_rounds.proofs.Puts.{Filled, filled_none, filled_more, filled-all, page-at, twelve-after, after-refused, after-given}
use Rattle.c_rounds_codec.proofs.tickets_after.Given as goal

abbrev pub invariant-loop-i : goal.invariant-loop-i
invariant-loop-i l = Filled 12 16 (λ t. cond (leb t l.m) (ticket_cells (page_in (map page_told l.fn.pages) t).ticket) (twelve_of l.given t)) l.cells l.i
