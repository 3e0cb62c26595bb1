-- `rounds_code::round`: a refusal by the checks of the plan, or the round over its cells as drawn or grown.
use borrow.Author.Rules.{rules}
use mathlib.Core.Path.{sym}
use Rattle.plan.specs.Plan.{Sound}
use Rattle.plan.proofs.Causes.{number-above}
use Rattle.plan.proofs.Growing.{drawn-framed}
use Rattle.plan_code.proofs.Drawn.{drawn}
use Rattle.sweep.proofs.Orders.{checked-plan}
use Rattle.rounds_code.proofs.Answers.{round-refused, by_order, parts}
use Rattle.rounds_code.proofs.round.Goals as goal

pub returns-in-Err : goal.returns-in-Err
returns-in-Err c = parts (round-refused _ _ (by_order _ _ (checked-plan _ _ _ _ c.in-Err.ensures (number-above _)) (number-above _)) (number-above _) _ c.refused_round.ensures)

pub round_over-requires : goal.round_over-requires
round_over-requires c =
    let sound : Sound c.args.shape c.args.cells.now = record { typed = record { sizes = search rules; margins = search rules }; passed = sym c.in-Ok.ensures } in
    drawn-framed c.args.shape c.args.cells.now sound

pub returns-then-is_drawn : goal.returns-then-is_drawn
returns-then-is_drawn c =
    let sound : Sound c.args.shape c.args.cells.now = record { typed = record { sizes = search rules; margins = search rules }; passed = sym c.in-Ok.ensures } in
    parts (c.round_over.ensures c.args.cells.now sound (drawn _ _ _ sound c.is_drawn.ensures c.if-is_drawn.true).is)

pub grown_cells-grown-requires : goal.grown_cells-grown-requires
grown_cells-grown-requires c =
    let sound : Sound c.args.shape c.args.cells.now = record { typed = record { sizes = search rules; margins = search rules }; passed = sym c.in-Ok.ensures } in
    (sound, search rules)

pub round_over-requires-2 : goal.round_over-requires-2
round_over-requires-2 c = c.grown_cells-grown.ensures.framed

pub returns : goal.returns
returns c =
    let sound : Sound c.args.shape c.args.cells.now = record { typed = record { sizes = search rules; margins = search rules }; passed = sym c.in-Ok.ensures } in
    parts (c.round_over-2.ensures c.args.cells.now sound c.grown_cells-grown.ensures.is)
