-- `c_codec::run_cells`: a refusal has cells of 0.
use mathlib.Core.Path.{sym, ap}
use Rattle.plan.specs.Causes.{read_by}
use Rattle.c_cells.proofs.Cells.{run_none}
use Rattle.c_codec.proofs.run_cells.Goals as goal

pub returns-in-Err : goal.returns-in-Err
returns-in-Err g c f = run_none (sym (ap (read_by f) c.in-Err.is))
