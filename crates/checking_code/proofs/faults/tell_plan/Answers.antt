-- `tell_plan` compares k with both bounds, and with the number of LAYER lines.
use mir.Syntax.{w32}
use mir.Val.{SFits}
use mir.Facts.{to_z-of_z}
use Rattle.checking.proofs.Faults.{plan-noted}
use Rattle.checking.proofs.Heads.{pen-start}
use borrow.Author.Rules.{rules}
use Rattle.checking_code.proofs.faults.tell_plan.Goals as goal

pub tell-p-requires : goal.tell-p-requires
tell-p-requires c = search (rules, pen-start)

pub returns : goal.returns
returns c =
    let f : SFits w32 c.args.k = c.ranges.k in
    let h = simp to_z-of_z at c.within.ensures in
    let k = simp to_z-of_z at c.size_of.ensures in
    search (rules, plan-noted)
