-- `cover_floats` takes the floats that it has stored.
use Rattle.outcomes.proofs.Outcomes.{told_same}
use Rattle.listing.proofs.Floats.{stored-inside, stored-long}
use Rattle.listing.proofs.Stops.{stored-said}
use borrow.Author.Rules.{rules}
use Rattle.listing_code.proofs.covers.cover_floats.Goals as goal

pub slice_bounds-cover_corners-end : goal.slice_bounds-cover_corners-end
slice_bounds-cover_corners-end c = search (rules, stored-inside)

pub slice_bounds-cover_corners-end-2 : goal.slice_bounds-cover_corners-end-2
slice_bounds-cover_corners-end-2 c = search (rules, stored-long)

pub returns : goal.returns
returns c = search (rules, told_same, stored-said)
