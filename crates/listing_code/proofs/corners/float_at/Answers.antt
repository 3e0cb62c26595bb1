-- `float_at` reads the word, where there is one.
use Rattle.listing.proofs.Floats.{no-float, float_is}
use borrow.Author.Rules.{rules}
use lib.Ieee.{of_bits}
use Rattle.listing_code.proofs.corners.float_at.Goals as goal

pub returns-then-t-at : goal.returns-then-t-at
unfolding of_bits
returns-then-t-at c = search (rules, no-float)

pub returns : goal.returns
returns c = search (rules, float_is)
