-- `tell_line` goes by the word of the line.
use mir.Syntax.{w32}
use mir.Val.{SFits}
use mir.Facts.{to_z-of_z}
use Rattle.checking.proofs.Faults.{line-plan, line-layer, line-rect}
use borrow.Author.Rules.{rules}
use Rattle.checking_code.proofs.notes.tell_line.Goals as goal

pub returns-in-Plan : goal.returns-in-Plan
returns-in-Plan c = search (rules, line-plan)

pub returns-in-Layer : goal.returns-in-Layer
returns-in-Layer c =
    let f : SFits w32 c.in-Layer.n = search rules in
    let g : SFits w32 c.in-Layer.margin = search rules in
    line-layer _ _ _ _ _ _ _ _ _ c.in-Layer.is (simp to_z-of_z at c.tell_layers.ensures)

pub returns-in-Rectangle : goal.returns-in-Rectangle
returns-in-Rectangle c = line-rect _ _ _ _ _ _ _ _ c.in-Rectangle.is c.tell_rect.ensures
