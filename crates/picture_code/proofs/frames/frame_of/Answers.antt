-- `frame_of`: two spans, and what they make of a unit.
use mathlib.Core.Path.{◌∙◌}
use native.Mathlib.Omega.{arith}
use mir.Facts.{to_z-of_z}
use Rattle.geometry.proofs.Machine.{Fitting, read-span}
use Rattle.picture.proofs.Frames.{frame_is}
use borrow.Author.Rules.{rules}
use Rattle.picture_code.proofs.frames.frame_of.Goals as goal

pub returns : goal.returns
returns c =
    let fits : Fitting c.args.ground = search rules in
    let f = fits in (
      frame_is c.args.ground (to_z-of_z f.left) (to_z-of_z f.top) (c.span-width.ensures.0 ∙ read-span f.left f.right) (c.span-height.ensures.0 ∙ read-span f.bottom f.top),
      record { width = c.span-width.ensures.1; height = c.span-height.ensures.1; unit = omega (arith, c.span-width.ensures.1, c.span-height.ensures.1) },
    )
