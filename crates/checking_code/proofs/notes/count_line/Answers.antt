-- `count_line` goes by the word of the line.
use mir.Syntax.{w32}
use mir.Val.{SFits}
use mir.Facts.{to_z-of_z}
use Rattle.checking.proofs.Faults.{count-layer, count-rect}
use borrow.Author.Rules.{rules}
use Rattle.checking_code.proofs.notes.count_line.Goals as goal

pub returns-in-Layer : goal.returns-in-Layer
returns-in-Layer c =
    let f : SFits w32 c.in-Layer.n = search rules in
    count-layer _ _ _ _ _ _ c.in-Layer.is (simp to_z-of_z at c.size_of.ensures)

pub returns-in-Rectangle : goal.returns-in-Rectangle
returns-in-Rectangle c = search (rules, count-rect)
