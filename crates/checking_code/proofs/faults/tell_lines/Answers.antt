use mathlib.Core.Path.{sym, ◌∙◌}
use native.Mathlib.Omega.{arith}
use Rattle.line.specs.Places.{Line-at}
use Rattle.line.proofs.Places.{line_on, line-bad}
use Rattle.checking.proofs.Noting.{noting-start, noting-none, noting-end, noting-more}
use Rattle.checking_code.proofs.faults.tell_lines.Goals as goal

pub loop-at-init : goal.loop-at-init
loop-at-init c = noting-start _ _ _ _ c.requires.0 c.requires.1

pub returns-in_default : goal.returns-in_default
returns-in_default c = noting-none _ _ _ _ _ _ _ _ _ c.loop-at.invariant (omega arith) (line-bad _ _ (sym c.in_default.is ∙ c.read_line.ensures))

pub loop-at-smaller : goal.loop-at-smaller
loop-at-smaller c =
    let read : Line-at c.args.text.now c.loop-at.at c.in-Some.line c.in-Some.next = line_on _ _ _ _ (sym c.in-Some.is ∙ c.read_line.ensures) in
    omega (arith, read)

pub loop-at-preserved : goal.loop-at-preserved
loop-at-preserved c =
    let read : Line-at c.args.text.now c.loop-at.at c.in-Some.line c.in-Some.next = line_on _ _ _ _ (sym c.in-Some.is ∙ c.read_line.ensures) in
    noting-more _ _ _ _ _ _ _ _ _ c.loop-at.invariant _ _ _ _ _ read c.tell_line-p.ensures c.count_line-c.ensures

pub returns : goal.returns
returns c = noting-end _ _ _ _ _ _ _ _ _ c.loop-at.invariant _ _ (omega arith) c.tell_missing.ensures
