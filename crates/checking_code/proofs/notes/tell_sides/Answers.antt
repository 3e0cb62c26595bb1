-- `tell_sides` tells of each pair of sides, and of the range.
use mir.Syntax.{w32}
use mir.Val.{SFits}
use mir.Facts.{to_z-of_z}
use Rattle.geometry.proofs.Machine.{Fitting}
use Rattle.checking.proofs.Faults.{sides-noted}
use borrow.Author.Rules.{rules}
use Rattle.checking_code.proofs.notes.tell_sides.Goals as goal

pub returns : goal.returns
returns c =
    let fits-r : Fitting c.args.r = search rules in
    let f = fits-r in
    let x : SFits w32 c.args.r.left = f.left in
    let y : SFits w32 c.args.r.bottom = f.bottom in
    let z : SFits w32 c.args.r.right = f.right in
    let w : SFits w32 c.args.r.top = f.top in
    let h = simp to_z-of_z at c.tell-p.ensures in
    let k = simp to_z-of_z at c.tell-q.ensures in
    search (rules, sides-noted)
