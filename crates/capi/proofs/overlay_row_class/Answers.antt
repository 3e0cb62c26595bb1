-- `capi::overlay_row_class`: number and class are those of the values.
use mathlib.Core.Path.{◌≡◌, refl, ap, ◌∙◌}
use Prim.Native.Nat.{ℕ}
use Rattle.std.specs.Prelude.{Option, Some, None, Result, Ok, Err}
use Rattle.plan.specs.declared.cause.Cause.{Cause}
use Rattle.plan.specs.Causes.{number_of, refusal, by_number}
use Rattle.crossings.specs.ClassCall.{class_values}
use Rattle.capi.proofs.overlay_row_class.Goals as goal

-- the number of its refusal
number : (r : Result (Option ℕ) Cause) → refusal r ≡ (class_values (by_number r)).number
number (Ok None) = refl
number (Ok (Some a)) = refl
number (Err c) = refl

pub returns : goal.returns
returns c =
    let answer = c.class_of-class.ensures.answer in
    (c.number_of.ensures ∙ number _ ∙ ap (λ (r : Result (Option ℕ) ℕ). (class_values r).number) answer, c.class_cell.ensures number_of ∙ ap (λ (r : Result (Option ℕ) ℕ). (class_values r).class) answer)
