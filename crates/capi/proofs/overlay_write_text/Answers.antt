-- `capi::overlay_write_text`: number and length are those of the answer.
use mathlib.Core.Path.{◌≡◌, refl, ap, ◌∙◌}
use Prim.Native.Nat.{ℕ}
use Rattle.std.specs.Prelude.{Option, Some, None, Result, Ok, Err}
use Rattle.plan.specs.declared.cause.Cause.{Cause}
use Rattle.plan.specs.Causes.{number_of, refusal, by_number}
use Rattle.text.specs.Writer.{number_said}
use Rattle.capi.proofs.overlay_write_text.Goals as goal

-- the number of its refusal
number : (r : Result ℕ Cause) → refusal r ≡ number_said (by_number r)
number (Ok a) = refl
number (Err c) = refl

pub returns : goal.returns
returns c = let k = c.write-writing.ensures in (c.number_of.ensures ∙ number _ ∙ k.number, c.size_in.ensures number_of ∙ k.length, k.buffer)
