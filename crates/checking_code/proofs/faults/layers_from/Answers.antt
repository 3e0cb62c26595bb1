use mathlib.Core.Path.{sym, ◌∙◌}
use native.Mathlib.Omega.{arith}
use Rattle.line.specs.Places.{Line-at}
use Rattle.line.proofs.Places.{line_on, line-bad}
use Rattle.checking.proofs.Layers.{layering-start, layering-none, layering-end, layering-more, layering-small}
use borrow.Author.Rules.{rules}
use Rattle.checking_code.proofs.faults.layers_from.Goals as goal

pub loop-at-init : goal.loop-at-init
loop-at-init c = search (rules, layering-start)

pub returns-in_default : goal.returns-in_default
returns-in_default c = layering-none _ _ _ _ c.loop-at.invariant (omega arith) (line-bad _ _ (sym c.in_default.is ∙ c.read_line.ensures))

pub overflow_add-count : goal.overflow_add-count
overflow_add-count c =
    let n = layering-small _ _ _ _ c.loop-at.invariant c.in-Some.line _ c.layer_line-count.ensures in
    omega (arith, n)

pub loop-at-smaller : goal.loop-at-smaller
loop-at-smaller c =
    let read : Line-at c.args.text.now c.loop-at.at c.in-Some.line c.in-Some.next = line_on _ _ _ _ (sym c.in-Some.is ∙ c.read_line.ensures) in
    omega (arith, read)

pub loop-at-preserved : goal.loop-at-preserved
loop-at-preserved c =
    let read : Line-at c.args.text.now c.loop-at.at c.in-Some.line c.in-Some.next = line_on _ _ _ _ (sym c.in-Some.is ∙ c.read_line.ensures) in
    layering-more _ _ _ _ c.loop-at.invariant _ _ _ read c.layer_line-count.ensures

pub returns : goal.returns
returns c = search (rules, layering-end)
