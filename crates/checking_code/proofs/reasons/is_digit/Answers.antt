use Rattle.checking.specs.Reasons.{digit}
use Rattle.checking_code.proofs.reasons.is_digit.Goals as goal

pub returns : goal.returns
unfolding digit
returns c = c.is_ascii_digit.ensures.value
