-- `tell_layer` tells of the size, and of the margin.
use mir.Syntax.{w32}
use mir.Val.{SFits}
use mir.Facts.{to_z-of_z}
use Rattle.checking.proofs.Faults.{layer-noted}
use borrow.Author.Rules.{rules}
use Rattle.checking_code.proofs.notes.tell_layer.Goals as goal

pub returns : goal.returns
returns c =
    let f : SFits w32 c.args.n = c.ranges.n in
    let g : SFits w32 c.args.margin = c.ranges.margin in
    let h = simp to_z-of_z at c.within.ensures in
    let k = simp to_z-of_z at c.within-2.ensures in
    search (rules, layer-noted)
