-- `read_plan` reads the field that ends the line.
use mathlib.Core.Path.{sym, ◌∙◌}
use mir.Syntax.{w32}
use mir.Val.{SFits}
use mir.Facts.{to_z-of_z}
use Rattle.decimal.proofs.Signs.{short-fits}
use Rattle.line.proofs.Places.{field-on, field-bad, plan-good, plan-bad}
use Rattle.line.proofs.Words.{end-alone}
use Rattle.lexer.proofs.parse.read_plan.Goals as goal

pub returns-in_err-k : goal.returns-in_err-k
returns-in_err-k c = c.from_residual.ensures ∙ plan-bad _ _ (field-bad _ _ 10 (sym c.in_err-k.was ∙ c.read_field.ensures 10 end-alone))

pub returns : goal.returns
returns c =
    let r = field-on _ _ 10 c.in_ok-k.k c.in_ok-k.next (sym c.in_ok-k.was ∙ c.read_field.ensures 10 end-alone) in
    let g : SFits w32 c.in_ok-k.k = short-fits _ r.few in
    simp to_z-of_z (plan-good _ _ _ _ r)
