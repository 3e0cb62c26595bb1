-- `rounds_code::serving::serve_all`. The invariant: those that were served have their pages, counters and parts, and the others what they had.
use mathlib.Core.List.{map}
use Rattle.paging.specs.Answers.{page_told}
use Rattle.rounds_code.proofs.Loop.{Going}
use Rattle.rounds_code.proofs.serving.serve_all.Given as goal

abbrev pub invariant-loop-i : goal.invariant-loop-i
invariant-loop-i l = Going l.walk.frame l.walk.cells.now l.walk.order.now l.m l.first l.budget l.tickets l.initial.counters l.initial.table l.size l.counters l.table (map page_told l.pages) l.client l.left l.i
