-- `geometry_code::is_nonempty`: the sides compare as numbers do.
use borrow.Author.Rules.{rules}
use mathlib.Core.Path.{◌∙◌, ap₂}
use lib.Signed.{le_z}
use mir.Facts.{to_z-of_z}
use Rattle.geometry.proofs.Machine.{Fitting, read-le, some_then, some-else}
use Rattle.geometry_code.proofs.is_nonempty.Goals as goal

pub returns-then-r : goal.returns-then-r
returns-then-r c =
    let fits-r : Fitting c.args.r = search rules in
    let f = fits-r in
    ap₂ le_z (to_z-of_z f.bottom) (to_z-of_z f.top) ∙ some_then c.args.r (read-le f.left f.right c.if-r.true)

pub returns-else-r : goal.returns-else-r
returns-else-r c =
    let fits-r : Fitting c.args.r = search rules in
    let f = fits-r in
    c.if-r.false ∙ some-else c.args.r (read-le f.left f.right c.if-r.false)
