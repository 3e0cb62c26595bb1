-- `capi::overlay_nearest`: the answer's number and cells.
use mathlib.Core.List.{List}
use mathlib.Core.Path.{◌≡◌, refl, ap, ◌∙◌}
use Prim.Native.Nat.{ℕ}
use Rattle.std.specs.Prelude.{Option, Some, None, Result, Ok, Err}
use Rattle.plan.specs.declared.cause.Cause.{Cause}
use Rattle.plan.specs.Causes.{number_of, refusal, by_number}
use Rattle.nearest.specs.declared.Near.{Near}
use Rattle.nearest.specs.Nearest.{nearest_call, nearest_values, near_cells}
use Rattle.capi.proofs.overlay_nearest.Goals as goal

-- the number of its refusal
number : (r : Result (List (Option Near)) Cause) → refusal r ≡ (nearest_values (by_number r)).number
number (Ok a) = refl
number (Err c) = refl

pub returns : goal.returns
returns c =
    let told = c.nearest-told.ensures ∙ ap (nearest_call _ _) c.rect_at.ensures in
    (c.number_of.ensures ∙ number _ ∙ ap (λ (r : Result (List (Option Near)) ℕ). (nearest_values r).number) told, c.near_cells.ensures number_of ∙ ap (λ (r : Result (List (Option Near)) ℕ). near_cells (nearest_values r)) told)
