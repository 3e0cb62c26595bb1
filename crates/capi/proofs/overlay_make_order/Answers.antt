-- `capi::overlay_make_order`: the number of the answer.
use mathlib.Core.Path.{◌≡◌, refl, ap, ◌∙◌}
use Prim.Native.Nat.{ℕ}
use Rattle.std.specs.Prelude.{Option, Some, None, Result, Ok, Err}
use Rattle.plan.specs.declared.cause.Cause.{Cause}
use Rattle.plan.specs.Causes.{refusal, by_number}
use Rattle.sweep.specs.Sweep.{order_number}
use Rattle.capi.proofs.overlay_make_order.Goals as goal

-- the number of its refusal
number : (r : Result (Unit {0}) Cause) → refusal r ≡ order_number (by_number r)
number (Ok a) = refl
number (Err c) = refl

pub returns : goal.returns
returns c = (c.number_of.ensures ∙ number _ ∙ c.make_order.ensures.number, c.make_order.ensures.buffer)
