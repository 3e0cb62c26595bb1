-- `read_rect` reads four fields, each from where the one before it ended.
use mathlib.Core.Path.{sym, ◌∙◌}
use mir.Syntax.{w32}
use mir.Val.{SFits}
use mir.Facts.{to_z-of_z}
use Rattle.decimal.proofs.Signs.{short-fits}
use Rattle.line.proofs.Places.{field-on, field-bad, no-left, no-bottom, no-right, no_top, all-four}
use Rattle.line.proofs.Words.{tab-alone, end-alone}
use Rattle.lexer.proofs.parse.read_rect.Goals as goal

pub returns-in_err-left : goal.returns-in_err-left
returns-in_err-left c = c.from_residual.ensures ∙ no-left _ _ (field-bad _ _ 9 (sym c.in_err-left.was ∙ c.read_field.ensures 9 tab-alone))

pub returns-in_err-bottom : goal.returns-in_err-bottom
returns-in_err-bottom c =
    let left = field-on _ _ 9 c.in_ok-left.left c.in_ok-left.a (sym c.in_ok-left.was ∙ c.read_field.ensures 9 tab-alone) in
    c.from_residual-in_err-bottom.ensures ∙ no-bottom _ _ _ _ left (field-bad _ _ 9 (sym c.in_err-bottom.was ∙ c.read_field-2.ensures 9 tab-alone))

pub returns-in_err-right : goal.returns-in_err-right
returns-in_err-right c =
    let left = field-on _ _ 9 c.in_ok-left.left c.in_ok-left.a (sym c.in_ok-left.was ∙ c.read_field.ensures 9 tab-alone) in
    let bottom = field-on _ _ 9 c.in_ok-bottom.bottom c.in_ok-bottom.b (sym c.in_ok-bottom.was ∙ c.read_field-2.ensures 9 tab-alone) in
    c.from_residual-in_err-right.ensures ∙ no-right _ _ _ _ left _ _ bottom (field-bad _ _ 9 (sym c.in_err-right.was ∙ c.read_field-3.ensures 9 tab-alone))

pub returns-in_err-top : goal.returns-in_err-top
returns-in_err-top c =
    let left = field-on _ _ 9 c.in_ok-left.left c.in_ok-left.a (sym c.in_ok-left.was ∙ c.read_field.ensures 9 tab-alone) in
    let bottom = field-on _ _ 9 c.in_ok-bottom.bottom c.in_ok-bottom.b (sym c.in_ok-bottom.was ∙ c.read_field-2.ensures 9 tab-alone) in
    let right = field-on _ _ 9 c.in_ok-right.right c.in_ok-right.c (sym c.in_ok-right.was ∙ c.read_field-3.ensures 9 tab-alone) in
    c.from_residual-in_err-top.ensures ∙ no_top _ _ _ _ left _ _ bottom _ _ right (field-bad _ _ 10 (sym c.in_err-top.was ∙ c.read_field-4.ensures 10 end-alone))

pub returns : goal.returns
returns c =
    let left = field-on _ _ 9 c.in_ok-left.left c.in_ok-left.a (sym c.in_ok-left.was ∙ c.read_field.ensures 9 tab-alone) in
    let bottom = field-on _ _ 9 c.in_ok-bottom.bottom c.in_ok-bottom.b (sym c.in_ok-bottom.was ∙ c.read_field-2.ensures 9 tab-alone) in
    let right = field-on _ _ 9 c.in_ok-right.right c.in_ok-right.c (sym c.in_ok-right.was ∙ c.read_field-3.ensures 9 tab-alone) in
    let top = field-on _ _ 10 c.in_ok-top.top c.in_ok-top.d (sym c.in_ok-top.was ∙ c.read_field-4.ensures 10 end-alone) in
    let f₀ : SFits w32 c.in_ok-left.left = short-fits _ left.few in
    let f₁ : SFits w32 c.in_ok-bottom.bottom = short-fits _ bottom.few in
    let f₂ : SFits w32 c.in_ok-right.right = short-fits _ right.few in
    let f₃ : SFits w32 c.in_ok-top.top = short-fits _ top.few in
    simp to_z-of_z (all-four _ _ _ _ left _ _ bottom _ _ right _ _ top)
