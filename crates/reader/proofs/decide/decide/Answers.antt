-- `decide` reads the PLAN line, and goes by the lines behind it.
use mathlib.Core.Path.{sym, ap, ◌∙◌}
use native.Mathlib.Omega.{arith}
use mir.Syntax.{w32}
use mir.Val.{SFits}
use mir.Facts.{to_z-of_z}
use Rattle.text.specs.Spelling.{inner}
use Rattle.line.specs.Places.{Line-at}
use Rattle.line.proofs.Places.{line_on, line-bad}
use Rattle.text.proofs.Filling.{form_cause, refused-form, lines_none, lines_other}
use borrow.Author.Rules.{rules}
use Rattle.reader.proofs.decide.decide.Goals as goal

pub returns-in_default : goal.returns-in_default
returns-in_default c =
    let s = c.args.s.now in
    refused-form s _ 9 (λ z. omega arith) (sym (ap form_cause (lines_none s (line-bad s 0 (sym c.in_default.is ∙ c.read_line.ensures)))))

pub decide_on-requires : goal.decide_on-requires
decide_on-requires c =
    let first : Line-at c.args.s.now 0 c.in-Some.line c.in-Some.next = line_on _ _ _ _ (sym c.in-Some.is ∙ c.read_line.ensures) in
    let f : SFits w32 c.in-Plan.k = search rules in
    simp to_z-of_z (rw c.in-Plan.is at first)

pub returns-in-Layer : goal.returns-in-Layer
returns-in-Layer c =
    let first : Line-at c.args.s.now 0 c.in-Some.line c.in-Some.next = line_on _ _ _ _ (sym c.in-Some.is ∙ c.read_line.ensures) in
    let s = c.args.s.now in
    refused-form s _ 9 (λ z. omega arith) (sym (ap form_cause (lines_other s _ _ (ap inner c.in-Layer.is) first)))

pub returns-in-Rectangle : goal.returns-in-Rectangle
returns-in-Rectangle c =
    let first : Line-at c.args.s.now 0 c.in-Some.line c.in-Some.next = line_on _ _ _ _ (sym c.in-Some.is ∙ c.read_line.ensures) in
    let s = c.args.s.now in
    refused-form s _ 9 (λ z. omega arith) (sym (ap form_cause (lines_other s _ _ (ap inner c.in-Rectangle.is) first)))
