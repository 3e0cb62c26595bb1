-- `read_layer` reads two fields, the second from where the first ended.
use mathlib.Core.Path.{sym, ◌∙◌}
use mir.Syntax.{w32}
use mir.Val.{SFits}
use mir.Facts.{to_z-of_z}
use Rattle.decimal.proofs.Signs.{short-fits}
use Rattle.line.proofs.Places.{field-on, field-bad, no_size, no-margin, size-and-margin}
use Rattle.line.proofs.Words.{tab-alone, end-alone}
use Rattle.lexer.proofs.parse.read_layer.Goals as goal

pub returns-in_err-n : goal.returns-in_err-n
returns-in_err-n c = c.from_residual.ensures ∙ no_size _ _ (field-bad _ _ 9 (sym c.in_err-n.was ∙ c.read_field.ensures 9 tab-alone))

pub returns-in_err-margin : goal.returns-in_err-margin
returns-in_err-margin c =
    let size = field-on _ _ 9 c.in_ok-n.n c.in_ok-n.a (sym c.in_ok-n.was ∙ c.read_field.ensures 9 tab-alone) in
    c.from_residual-in_err-margin.ensures ∙ no-margin _ _ _ _ size (field-bad _ _ 10 (sym c.in_err-margin.was ∙ c.read_field-2.ensures 10 end-alone))

pub returns : goal.returns
returns c =
    let size = field-on _ _ 9 c.in_ok-n.n c.in_ok-n.a (sym c.in_ok-n.was ∙ c.read_field.ensures 9 tab-alone) in
    let margin = field-on _ _ 10 c.in_ok-margin.margin c.in_ok-margin.b (sym c.in_ok-margin.was ∙ c.read_field-2.ensures 10 end-alone) in
    let f₀ : SFits w32 c.in_ok-n.n = short-fits _ size.few in
    let f₁ : SFits w32 c.in_ok-margin.margin = short-fits _ margin.few in
    simp to_z-of_z (size-and-margin _ _ _ _ size _ _ margin)
