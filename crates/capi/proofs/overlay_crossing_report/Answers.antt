-- `capi::overlay_crossing_report`: number, cells and counts are those of the values.
use mathlib.Core.Path.{ap, ◌∙◌}
use Rattle.plan.specs.Causes.{number_of}
use Rattle.crossing_report.specs.CrossingCall.{CrossingValues}
use Rattle.paging.specs.Calls.{run_values}
use Rattle.c_cells.specs.Cells.{run_cells}
use Rattle.capi.proofs.overlay_crossing_report.Goals as goal

pub returns-in-Ok : goal.returns-in-Ok
returns-in-Ok c =
    let k = c.in-Ok.ensures in
    (ap (λ (r : CrossingValues). (run_values r.run).number) k.answer, c.run_cells.ensures number_of ∙ ap (λ (r : CrossingValues). run_cells (run_values r.run)) k.answer, ap (λ (r : CrossingValues). r.counts) k.answer, k.table, k.work)

pub returns-in-Err : goal.returns-in-Err
returns-in-Err c =
    let k = c.in-Err.ensures in
    (c.from.ensures ∙ ap (λ (r : CrossingValues). (run_values r.run).number) k.answer, c.run_cells-in-Err.ensures number_of ∙ ap (λ (r : CrossingValues). run_cells (run_values r.run)) k.answer, ap (λ (r : CrossingValues). r.counts) k.answer, k.table, k.work)
