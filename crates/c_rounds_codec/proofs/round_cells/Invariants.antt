-- `c_rounds_codec::round_cells`. The invariant: the cells of the first i pages stand at the start.
use borrow.Author.Rules.{rules}
use mathlib.Core.Path.{◌≡◌, refl, ap, ◌∙◌}
use Prim.Native.Nat.{◌-◌, ◌≤◌}
use native.Mathlib.Omega.{arith}
use lib.ListN.{length}
use mathlib.Core.List.{map}
use Rattle.paging.specs.Answers.{page_told}
use Rattle.c_cells.specs.Cells.{page_cells}
use Rattle.c_rounds.specs.RoundCells.{page_in, round_cells}
use Rattle.c_rounds.proofs.Puts.{Filled, filled_none, filled_more, filled-all, page-at}
use Rattle.c_rounds_codec.proofs.round_cells.Given as goal

abbrev pub invariant-loop-i : goal.invariant-loop-i
invariant-loop-i l = Filled 5 16 (λ t. page_cells (page_in (map page_told l.fn.pages) t)) l.cells l.i
