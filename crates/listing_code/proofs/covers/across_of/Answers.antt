-- `across_of`: the strip of two stops.
use borrow.Author.Rules.{rules}
use Rattle.geometry.proofs.Machine.{Fitting}
use Rattle.listing.proofs.Stops.{strip-read}
use Rattle.listing_code.proofs.covers.across_of.Goals as goal

pub returns : goal.returns
returns c =
    let fits-r : Fitting c.args.stops = search rules in
    let f = fits-r in
    strip-read _ _ f.left f.right _ _ c.stop_of.ensures c.stop_of-2.ensures _ c.strip_of.ensures
