use mathlib.Core.Path.{sym, ◌∙◌}
use native.Mathlib.Omega.{arith}
use borrow.Author.Tests.{not-true, not-false}
use Rattle.line.specs.Places.{Line-at}
use Rattle.line.proofs.Places.{line_on, line-bad}
use Rattle.text.proofs.Counting.{counting-start, counting-none, counting-end, counting-stop, counting_more}
use Rattle.reader.proofs.decide.tally.Goals as goal

pub loop-at-init : goal.loop-at-init
loop-at-init c = counting-start _ _ _ c.requires c.none_yet-t.ensures

pub returns-in_default : goal.returns-in_default
returns-in_default c = counting-none _ _ c.loop-at.at c.loop-at.t c.loop-at.invariant _ (omega arith) (line-bad _ _ (sym c.in_default.is ∙ c.read_line.ensures)) c.not_formed.ensures

pub add_line-t-requires : goal.add_line-t-requires
add_line-t-requires c = c.loop-at.invariant.few

pub returns-then-not-t : goal.returns-then-not-t
returns-then-not-t c =
    let read : Line-at c.args.s.now c.loop-at.at c.in-Some.line c.in-Some.next = line_on _ _ _ _ (sym c.in-Some.is ∙ c.read_line.ensures) in
    counting-stop _ _ c.loop-at.at c.loop-at.t c.loop-at.invariant _ _ read _ c.add_line-t.ensures (not-true _ c.if-not-t.true)

pub loop-at-smaller : goal.loop-at-smaller
loop-at-smaller c =
    let read : Line-at c.args.s.now c.loop-at.at c.in-Some.line c.in-Some.next = line_on _ _ _ _ (sym c.in-Some.is ∙ c.read_line.ensures) in
    omega (arith, read)

pub loop-at-preserved : goal.loop-at-preserved
loop-at-preserved c =
    let read : Line-at c.args.s.now c.loop-at.at c.in-Some.line c.in-Some.next = line_on _ _ _ _ (sym c.in-Some.is ∙ c.read_line.ensures) in
    counting_more _ _ c.loop-at.at c.loop-at.t c.loop-at.invariant _ _ read _ c.add_line-t.ensures (not-false _ c.if-not-t.false)

pub returns : goal.returns
returns c = counting-end _ _ _ _ c.loop-at.invariant c.loop-at-test.false
