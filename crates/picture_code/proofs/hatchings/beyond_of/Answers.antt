-- `beyond_of` asks whether it is a point.
use Rattle.geometry.proofs.Machine.{Fitting, read-lt}
use Rattle.picture.proofs.Hatchings.{wide-beyond, high-beyond, spot-beyond}
use borrow.Author.Rules.{rules}
use Rattle.picture_code.proofs.hatchings.beyond_of.Goals as goal

pub returns-then-r : goal.returns-then-r
returns-then-r c =
    let fits : Fitting c.args.r = search rules in
    let f = fits in wide-beyond _ _ (read-lt f.left f.right c.if-r.true)

pub returns-then-r-2 : goal.returns-then-r-2
returns-then-r-2 c =
    let fits : Fitting c.args.r = search rules in
    let f = fits in
    high-beyond _ _ (read-lt f.left f.right c.if-r.false) (read-lt f.bottom f.top c.if-r-2.true)

pub returns : goal.returns
returns c =
    let fits : Fitting c.args.r = search rules in
    let f = fits in
    spot-beyond _ _ (read-lt f.left f.right c.if-r.false) (read-lt f.bottom f.top c.if-r-2.false)
