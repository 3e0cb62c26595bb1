-- `add_line` goes by the word of the line.
use mathlib.Core.Path.{sym, ap, ◌∙◌}
use mir.Syntax.{w32}
use mir.Val.{SFits}
use mir.Facts.{to_z-of_z}
use Rattle.text.specs.inner.Counting.{add_line}
use borrow.Author.Rules.{rules}
use Rattle.reader.proofs.decide.add_line.Goals as goal

pub returns-in-Layer : goal.returns-in-Layer
returns-in-Layer c =
    let f : SFits w32 c.in-Layer.n = search rules in
    let g : SFits w32 c.in-Layer.margin = search rules in
    simp to_z-of_z at c.add_layer.ensures ∙ ap (add_line c.args.t) (sym c.in-Layer.is)

pub returns-in-Rectangle : goal.returns-in-Rectangle
returns-in-Rectangle c = c.add_rect.ensures ∙ ap (add_line c.args.t) (sym c.in-Rectangle.is)
