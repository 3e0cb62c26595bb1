-- `crossings_code::covers_point`: the coordinates compare as numbers do.
use borrow.Author.Rules.{rules}
use mathlib.Core.Path.{ap₂}
use mathlib.Core.Bool.{◌&&◌}
use lib.Signed.{le_z}
use mir.Facts.{to_z-of_z}
use Rattle.geometry.proofs.Machine.{Fitting}
use Rattle.crossings.specs.Crossings.{covers}
use Rattle.crossings_code.proofs.covers_point.Goals as goal

pub returns : goal.returns
unfolding covers
returns c =
    let fits-r : Fitting c.args.r = search rules in
    let f = fits-r in
    let x = to_z-of_z c.ranges.x in
    let y = to_z-of_z c.ranges.y in
    ap₂ ◌&&◌ (ap₂ ◌&&◌ (ap₂ ◌&&◌ (ap₂ le_z (to_z-of_z f.left) x) (ap₂ le_z x (to_z-of_z f.right))) (ap₂ le_z (to_z-of_z f.bottom) y)) (ap₂ le_z y (to_z-of_z f.top))
