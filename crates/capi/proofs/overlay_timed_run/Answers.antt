-- `capi::overlay_timed_run`: number and cells are those of the values.
use mathlib.Core.Path.{◌≡◌, refl, ap, ◌∙◌}
use Prim.Native.Nat.{ℕ}
use Rattle.std.specs.Prelude.{Option, Some, None, Result, Ok, Err}
use Rattle.plan.specs.declared.cause.Cause.{Cause}
use Rattle.plan.specs.Causes.{number_of, refusal, by_number}
use Rattle.paging.specs.declared.Done.{Done}
use Rattle.paging.specs.Calls.{run_values}
use Rattle.c_cells.specs.Cells.{run_cells}
use Rattle.capi.proofs.overlay_timed_run.Goals as goal

-- the number of its refusal
number : (r : Result Done Cause) → refusal r ≡ (run_values (by_number r)).number
number (Ok a) = refl
number (Err c) = refl

pub returns : goal.returns
returns c =
    let k = c.timed_run-run.ensures in
    (c.number_of.ensures ∙ number _ ∙ ap (λ (r : Result Done ℕ). (run_values r).number) k.answer, c.run_cells.ensures number_of ∙ ap (λ (r : Result Done ℕ). run_cells (run_values r)) k.answer, k.table, k.work)
