use mathlib.Core.Path.{sym, ◌∙◌}
use native.Mathlib.Omega.{arith}
use Rattle.line.specs.Places.{Line-at}
use Rattle.line.proofs.Places.{line_on, line-bad}
use Rattle.checking.proofs.Bad.{seeking-start, seeking-end, seeking-none, seeking-other, seeking-more}
use Rattle.checking_code.proofs.seek.seek.Goals as goal

pub loop-at-init : goal.loop-at-init
loop-at-init c = seeking-start _

pub returns-in_default : goal.returns-in_default
returns-in_default c = seeking-none _ _ _ _ c.loop-at.invariant (omega arith) (line-bad _ _ (sym c.in_default.is ∙ c.read_line.ensures))

pub returns-then-not-in_place : goal.returns-then-not-in_place
returns-then-not-in_place c =
    let read : Line-at c.args.s.now c.loop-at.at c.in-Some.line c.in-Some.next = line_on _ _ _ _ (sym c.in-Some.is ∙ c.read_line.ensures) in
    seeking-other _ _ _ _ c.loop-at.invariant _ _ read (sym c.in_place.ensures ∙ c.if-not-in_place.true)

pub loop-at-smaller : goal.loop-at-smaller
loop-at-smaller c =
    let read : Line-at c.args.s.now c.loop-at.at c.in-Some.line c.in-Some.next = line_on _ _ _ _ (sym c.in-Some.is ∙ c.read_line.ensures) in
    omega (arith, read)

pub loop-at-preserved : goal.loop-at-preserved
loop-at-preserved c =
    let read : Line-at c.args.s.now c.loop-at.at c.in-Some.line c.in-Some.next = line_on _ _ _ _ (sym c.in-Some.is ∙ c.read_line.ensures) in
    seeking-more _ _ _ _ c.loop-at.invariant _ _ read (sym c.in_place.ensures ∙ c.if-not-in_place.false)

pub returns : goal.returns
returns c = seeking-end _ _ _ _ c.loop-at.invariant (omega arith)
