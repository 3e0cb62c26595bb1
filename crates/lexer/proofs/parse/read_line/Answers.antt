-- `read_line` goes by the word that the line starts with.
use mathlib.Core.Path.{sym, ◌∙◌}
use Rattle.line.proofs.Places.{rect-at, layer-at, plan-at, no_word}
use Rattle.lexer.proofs.parse.read_line.Goals as goal

pub returns-then-starts : goal.returns-then-starts
returns-then-starts c = c.read_rect.ensures ∙ rect-at c.args.s.now c.args.at (sym c.starts.ensures ∙ c.if-starts.true)

pub returns-then-starts-2 : goal.returns-then-starts-2
returns-then-starts-2 c = c.read_layer.ensures ∙ layer-at c.args.s.now c.args.at (sym c.starts-2.ensures ∙ c.if-starts-2.true)

pub returns-then-starts-3 : goal.returns-then-starts-3
returns-then-starts-3 c = c.read_plan.ensures ∙ plan-at c.args.s.now c.args.at (sym c.starts-3.ensures ∙ c.if-starts-3.true)

pub returns : goal.returns
returns c =
    no_word c.args.s.now c.args.at
    (sym c.starts.ensures ∙ c.if-starts.false)
    (sym c.starts-2.ensures ∙ c.if-starts-2.false)
    (sym c.starts-3.ensures ∙ c.if-starts-3.false)
