-- `put_lines` tells of the PLAN line, of the lines behind it, and that there is more.
use mir.Syntax.{w32}
use mir.Val.{SFits}
use mir.Facts.{to_z-of_z}
use Rattle.checking.proofs.Heads.{lines-behind, faults-put}
use borrow.Author.Rules.{rules}
use Rattle.checking_code.proofs.faults.put_lines.Goals as goal

pub layers_from-layers-requires : goal.layers_from-layers-requires
layers_from-layers-requires c = search (rules, lines-behind)

pub tell_lines-q-requires : goal.tell_lines-q-requires
tell_lines-q-requires c = search (rules, lines-behind)

pub returns : goal.returns
returns c =
    let f : SFits w32 c.args.k = c.ranges.k in
    let h = simp to_z-of_z at c.tell_plan-p.ensures in
    search (rules, faults-put)
