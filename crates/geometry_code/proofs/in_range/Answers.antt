-- `geometry_code::in_range`: the four coordinates are read back, and the sides are tested.
use borrow.Author.Rules.{rules}
use mathlib.Core.Path.{ap₂}
use mathlib.Core.Bool.{◌&&◌}
use Rattle.geometry.specs.Rectangles.{held}
use Rattle.geometry.proofs.Machine.{Fitting, read-reach}
use Rattle.geometry_code.proofs.in_range.Goals as goal

pub returns : goal.returns
unfolding held
returns c =
    let fits-r : Fitting c.args.r = search rules in
    let f = fits-r in
    ap₂ ◌&&◌
    (ap₂ ◌&&◌
    (ap₂ ◌&&◌ (ap₂ ◌&&◌ (read-reach f.left c.in_reach.ensures) (read-reach f.bottom c.in_reach-2.ensures)) (read-reach f.right c.in_reach-3.ensures))
    (read-reach f.top c.in_reach-4.ensures))
    c.is_nonempty.ensures
