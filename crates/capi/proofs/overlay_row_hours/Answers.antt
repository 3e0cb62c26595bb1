-- `capi::overlay_row_hours`: number and cells are those of the values.
use mathlib.Core.Path.{◌≡◌, refl, ap, ◌∙◌}
use Prim.Native.Nat.{ℕ}
use Rattle.std.specs.Prelude.{Option, Some, None, Result, Ok, Err}
use Rattle.plan.specs.declared.cause.Cause.{Cause}
use Rattle.plan.specs.Causes.{number_of, refusal, by_number}
use Rattle.windows.specs.declared.Window.{Window}
use Rattle.windows.specs.HoursCall.{hours_values}
use Rattle.c_cells.specs.Cells.{hours_cells}
use Rattle.capi.proofs.overlay_row_hours.Goals as goal

-- the number of its refusal
number : (r : Result (Option Window) Cause) → refusal r ≡ (hours_values (by_number r)).number
number (Ok None) = refl
number (Ok (Some a)) = refl
number (Err c) = refl

pub returns : goal.returns
returns c =
    let answer = c.row_hours-told.ensures.answer in
    (c.number_of.ensures ∙ number _ ∙ ap (λ (r : Result (Option Window) ℕ). (hours_values r).number) answer, c.hours_cells.ensures number_of ∙ ap (λ (r : Result (Option Window) ℕ). hours_cells (hours_values r)) answer)
