-- `capi::overlay_apart_pair`: number and cells are those of the values.
use mathlib.Core.Path.{◌≡◌, refl, ap, ◌∙◌}
use Prim.Native.Nat.{ℕ}
use Rattle.std.specs.Prelude.{Option, Some, None, Result, Ok, Err}
use Rattle.plan.specs.declared.cause.Cause.{Cause}
use Rattle.plan.specs.Causes.{number_of, refusal, by_number}
use Rattle.pairs.specs.declared.Pair.{Pair}
use Rattle.pairs.specs.PairCall.{pair_values}
use Rattle.c_cells.specs.Cells.{pair_cells}
use Rattle.capi.proofs.overlay_apart_pair.Goals as goal

-- the number of its refusal
number : (r : Result (Option Pair) Cause) → refusal r ≡ (pair_values (by_number r)).number
number (Ok None) = refl
number (Ok (Some a)) = refl
number (Err c) = refl

pub returns : goal.returns
returns c =
    let answer = c.apart_pair-told.ensures.answer in
    (c.number_of.ensures ∙ number _ ∙ ap (λ (r : Result (Option Pair) ℕ). (pair_values r).number) answer, c.pair_cells.ensures number_of ∙ ap (λ (r : Result (Option Pair) ℕ). pair_cells (pair_values r)) answer)
