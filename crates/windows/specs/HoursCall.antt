-- The call for a row's shared minutes (02, Q-12): "Given such a row, one call returns the first shared minute and the first after them; for other cells 0 and
-- 0."
use Rattle.std.specs.Prelude.{List, cond, ◌&&◌, ℕ, ℤ, Option, Some, None, Result, Ok, Err}
use Rattle.std.proofs.Math.Option.{Option as Maybe, none, some}
use Rattle.lists.specs.Lists.{sum}
use Rattle.plan.specs.declared.Shape.{Shape}
use Rattle.plan.specs.Causes.{unless, ◌or_else◌, on_cause}
use Rattle.plan.specs.Plan.{sizes_of, layers, plan_cause}
use Rattle.rows.specs.RowCall.{is_row}
use Rattle.windows.specs.declared.Window.{Window}
use Rattle.windows.specs.Windows.{are_hours, hours_of, shares_minute}

-- the first of the causes 1 2 17 3 4 that applies to a plan, and with its windows, where it comes with some, 24. 02: "24, after 4"
unfoldable pub hours_cause : (windows : Maybe (List ℕ)) → Shape → List ℤ → ℕ
hours_cause none s cells = plan_cause s cells
hours_cause (some hours) s cells = plan_cause s cells or_else unless (are_hours (sum s.sizes) hours) 24

-- the call: the window that the row's windows share
unfoldable pub hours_call : Shape → List ℤ → List ℕ → (row : List ℕ) → Result (Option Window) ℕ
hours_call s cells hours row =
    let w = hours_of (sizes_of s) hours row in
    on_cause (hours_cause (some hours) s cells)
    (Ok (cond (is_row (layers s cells) row && shares_minute (sizes_of s) hours row) (Some w) None)) Err

-- the number and values of each answer: the cause or 0, the first shared minute and the first after them
pub record HoursValues : Type 0 where
  pub number : ℕ
  pub from : ℕ
  pub to : ℕ

abbrev pub hours_values : Result (Option Window) ℕ → HoursValues
hours_values (Err cause) = record { number = cause; from = 0; to = 0 }
hours_values (Ok None) = record { number = 0; from = 0; to = 0 }
hours_values (Ok (Some shared)) = record { number = 0; from = shared.from; to = shared.to }
