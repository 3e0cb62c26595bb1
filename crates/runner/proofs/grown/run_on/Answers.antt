-- `runner::grown::run_on`: over the cells as drawn, or over a copy that is grown.
use mathlib.Core.List.{List}
use Prim.Native.Nat.{◌≤◌}
use lib.IntN.{ℤ}
use lib.ListN.{length}
use Rattle.plan.specs.Plan.{sizes_of}
use Rattle.plan.specs.Frames.{Framed}
use Rattle.plan_code.specs.Copies.{GrownCells}
use Rattle.plan_code.proofs.Drawn.{drawn}
use Rattle.pager.specs.Answers.{Hourly, Paired}
use Rattle.pager.proofs.Calls.{paired}
use Rattle.runner.proofs.grown.run_on.Goals as goal

pub run_over-requires : goal.run_over-requires
run_over-requires c =
    let asked : (here : List ℤ) → GrownCells c.args.shape c.args.cells.now here → ((c.args.shape.k ≤ length c.args.shape.sizes) × Framed (sizes_of c.args.shape) here) × (Hourly c.args.timed c.args.shape c.args.hours.now × Paired c.args.timed c.args.shape c.args.hours.now) = λ here g. (g.framed, (c.requires.1, paired c.args.timed c.args.shape c.args.cells.now c.args.hours.now c.requires.0 c.requires.1)) in
    record {
      k_in_bounds = (asked _ (drawn _ _ _ c.requires.0 c.is_drawn.ensures c.if-is_drawn.true)).0;
      hourly = (asked _ (drawn _ _ _ c.requires.0 c.is_drawn.ensures c.if-is_drawn.true)).1;
    }

pub returns-then-is_drawn : goal.returns-then-is_drawn
returns-then-is_drawn c = c.run_over.ensures c.args.cells.now c.requires.0 (drawn _ _ _ c.requires.0 c.is_drawn.ensures c.if-is_drawn.true).is

pub run_over-requires-2 : goal.run_over-requires-2
run_over-requires-2 c =
    let asked : (here : List ℤ) → GrownCells c.args.shape c.args.cells.now here → ((c.args.shape.k ≤ length c.args.shape.sizes) × Framed (sizes_of c.args.shape) here) × (Hourly c.args.timed c.args.shape c.args.hours.now × Paired c.args.timed c.args.shape c.args.hours.now) = λ here g. (g.framed, (c.requires.1, paired c.args.timed c.args.shape c.args.cells.now c.args.hours.now c.requires.0 c.requires.1)) in
    record {
      k_in_bounds = (asked _ c.grown_cells-grown.ensures).0;
      hourly = (asked _ c.grown_cells-grown.ensures).1;
    }

pub returns : goal.returns
returns c = c.run_over-2.ensures c.args.cells.now c.requires.0 c.grown_cells-grown.ensures.is
