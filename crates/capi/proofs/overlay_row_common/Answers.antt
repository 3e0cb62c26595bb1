-- `capi::overlay_row_common`: number and cells are those of the values.
use mathlib.Core.Path.{◌≡◌, refl, ap, ◌∙◌}
use Prim.Native.Nat.{ℕ}
use Rattle.std.specs.Prelude.{Option, Some, None, Result, Ok, Err}
use Rattle.plan.specs.declared.cause.Cause.{Cause}
use Rattle.plan.specs.Causes.{number_of, refusal, by_number}
use Rattle.rows.specs.declared.CommonGround.{CommonGround}
use Rattle.rows.specs.RowCall.{common_values}
use Rattle.c_cells.specs.Cells.{common_cells}
use Rattle.capi.proofs.overlay_row_common.Goals as goal

-- the number of its refusal
number : (r : Result (Option CommonGround) Cause) → refusal r ≡ (common_values (by_number r)).number
number (Ok None) = refl
number (Ok (Some a)) = refl
number (Err c) = refl

pub returns : goal.returns
returns c =
    let answer = c.row_common-told.ensures.answer in
    (c.number_of.ensures ∙ number _ ∙ ap (λ (r : Result (Option CommonGround) ℕ). (common_values r).number) answer, c.common_cells.ensures number_of ∙ ap (λ (r : Result (Option CommonGround) ℕ). common_cells (common_values r)) answer)
