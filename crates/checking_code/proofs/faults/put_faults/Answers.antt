-- `put_faults` reads the PLAN line, which a well formed text has.
use mathlib.Core.Path.{sym, ap, ◌∙◌}
use mir.Syntax.{w32}
use mir.Val.{SFits}
use mir.Facts.{to_z-of_z}
use Rattle.text.specs.Spelling.{inner}
use Rattle.line.specs.Places.{Line-at}
use Rattle.line.proofs.Places.{line_on, line-bad}
use Rattle.checking.proofs.Heads.{plan-first, plan-only}
use borrow.Author.Rules.{rules}
use Rattle.checking_code.proofs.faults.put_faults.Goals as goal

pub returns-in_default : goal.returns-in_default
returns-in_default c = plan-first _ c.requires.0 (line-bad _ 0 (sym c.in_default.is ∙ c.read_line.ensures))

pub put_lines-requires : goal.put_lines-requires
put_lines-requires c =
    let first : Line-at c.args.text.now 0 c.in-Some.line c.in-Some.next = line_on _ _ _ _ (sym c.in-Some.is ∙ c.read_line.ensures) in
    let f : SFits w32 c.in-Plan.k = search rules in
    (record { formed = c.requires.0; first = simp to_z-of_z (rw c.in-Plan.is at first) }, c.requires.1, search rules)

pub returns-in-Layer : goal.returns-in-Layer
returns-in-Layer c =
    let first : Line-at c.args.text.now 0 c.in-Some.line c.in-Some.next = line_on _ _ _ _ (sym c.in-Some.is ∙ c.read_line.ensures) in
    plan-only _ c.requires.0 _ _ (ap inner c.in-Layer.is) first

pub returns-in-Rectangle : goal.returns-in-Rectangle
returns-in-Rectangle c =
    let first : Line-at c.args.text.now 0 c.in-Some.line c.in-Some.next = line_on _ _ _ _ (sym c.in-Some.is ∙ c.read_line.ensures) in
    plan-only _ c.requires.0 _ _ (ap inner c.in-Rectangle.is) first
