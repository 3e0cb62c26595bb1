-- `tell_layers` tells of the layer before, and of this one.
use mir.Syntax.{w32}
use mir.Val.{SFits}
use mir.Facts.{to_z-of_z}
use Rattle.checking.proofs.Faults.{layers-noted}
use borrow.Author.Rules.{rules}
use Rattle.checking_code.proofs.notes.tell_layers.Goals as goal

pub returns : goal.returns
returns c =
    let f : SFits w32 c.args.n = c.ranges.n in
    let g : SFits w32 c.args.margin = c.ranges.margin in
    let h = simp to_z-of_z at c.tell_layer.ensures in
    search (rules, layers-noted)
