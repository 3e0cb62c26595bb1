-- `read_field` reads a number and goes by the kind of the byte behind it.
use mathlib.Core.Path.{◌≡◌, sym, ◌∙◌}
use native.Mathlib.Omega.{arith}
use borrow.Author.Rules.{rules}
use mir.Syntax.{w32}
use mir.Val.{SFits}
use mir.Facts.{to_z-of_z}
use Rattle.decimal.proofs.Signs.{short-fits}
use Rattle.line.proofs.Places.{Numbered-at, number-on, field-good, field-other, field-none}
use Rattle.lexer.proofs.parse.read_field.Goals as goal

pub returns-in_err-z : goal.returns-in_err-z
returns-in_err-z c = λ e a. c.from_residual.ensures ∙ field-none c.args.s.now c.args.at e (sym c.in_err-z.was ∙ c.read_number.ensures)

pub overflow_add-result : goal.overflow_add-result
overflow_add-result c =
    let found : Numbered-at c.args.s.now c.args.at c.in_ok-z.z c.in_ok-z.next = number-on _ _ _ _ (sym c.in_ok-z.was ∙ c.read_number.ensures) in
    omega (arith, found.inside)

pub returns-then-eq : goal.returns-then-eq
returns-then-eq c =
    let found : Numbered-at c.args.s.now c.args.at c.in_ok-z.z c.in_ok-z.next = number-on _ _ _ _ (sym c.in_ok-z.was ∙ c.read_number.ensures) in
    let same : c.kind_at.result ≡ c.args.end = search rules in
    let f : SFits w32 c.in_ok-z.z = short-fits c.in_ok-z.z found.few in
    λ e a. simp to_z-of_z (field-good c.args.s.now c.args.at c.args.end c.in_ok-z.z c.in_ok-z.next found e a (sym c.kind_at.ensures ∙ same))

pub returns : goal.returns
returns c =
    let found : Numbered-at c.args.s.now c.args.at c.in_ok-z.z c.in_ok-z.next = number-on _ _ _ _ (sym c.in_ok-z.was ∙ c.read_number.ensures) in
    let other : c.kind_at.result ≡ c.args.end → ⊥ = search rules in
    λ e a. field-other c.args.s.now c.args.at c.args.end c.in_ok-z.z c.in_ok-z.next found e a (λ q. other (c.kind_at.ensures ∙ q))
