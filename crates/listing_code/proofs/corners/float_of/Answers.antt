-- `float_of` takes a pattern that stands for no number apart.
use Rattle.listing.proofs.Floats.{no_number, a-number}
use borrow.Author.Rules.{rules}
use Rattle.listing_code.proofs.corners.float_of.Goals as goal

pub returns-then-bits-gt9218868437227405312 : goal.returns-then-bits-gt9218868437227405312
returns-then-bits-gt9218868437227405312 c = search (rules, no_number)

pub float_from_bits-result : goal.float_from_bits-result
float_from_bits-result c = search (rules, a-number)
