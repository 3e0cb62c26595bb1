-- `reason_lines` has these bytes, which both sides compute to.
use mathlib.Core.Path.{refl}
use Rattle.listing.specs.Reasons.{window_reasons}
use Rattle.listing_code.proofs.fault_lines.reason_lines.Goals as goal

pub returns : goal.returns
unfolding window_reasons
returns c = refl
