use Rattle.listing.proofs.Floats.{one-stored, all-stored}
use borrow.Author.Rules.{rules}
use native.Mathlib.Omega.{arith}
use Rattle.listing_code.proofs.corners.put_floats.Goals as goal

pub bounds-corners-i : goal.bounds-corners-i
bounds-corners-i c = omega (arith, c.loop-i.invariant.left.long)

pub loop-i-preserved : goal.loop-i-preserved
loop-i-preserved c = search (rules, one-stored)

pub returns : goal.returns
returns c = search (rules, all-stored)
