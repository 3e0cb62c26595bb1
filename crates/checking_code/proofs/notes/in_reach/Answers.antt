-- `in_reach` tests the four coordinates.
use mir.Syntax.{w32}
use mir.Val.{SFits}
use mir.Facts.{to_z-of_z}
use Rattle.geometry.proofs.Machine.{Fitting}
use Rattle.checking.proofs.Faults.{reach-is}
use borrow.Author.Rules.{rules}
use Rattle.checking_code.proofs.notes.in_reach.Goals as goal

pub returns : goal.returns
returns c =
    let fits-r : Fitting c.args.r = search rules in
    let f = fits-r in
    let x : SFits w32 c.args.r.left = f.left in
    let y : SFits w32 c.args.r.bottom = f.bottom in
    let z : SFits w32 c.args.r.right = f.right in
    let w : SFits w32 c.args.r.top = f.top in
    reach-is c.args.r _ _ _ _
    (simp to_z-of_z at c.within.ensures)
    (simp to_z-of_z at c.within-2.ensures)
    (simp to_z-of_z at c.within-3.ensures)
    (simp to_z-of_z at c.within-4.ensures)
