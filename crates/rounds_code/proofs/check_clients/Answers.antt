use borrow.Author.Rules.{rules}
use mathlib.Core.Path.{◌≡◌, refl}
use Prim.Native.Nat.{◌+◌, ◌-◌}
use lib.ListN.{length}
use native.Mathlib.Omega.{arith}
use Rattle.plan.proofs.Causes.{number-above, passed}
use Rattle.rounds_code.proofs.Checks.{passing-none, passing-all, passing-stops, passing-more}
use Rattle.rounds_code.proofs.check_clients.Goals as goal

pub loop-i-init : goal.loop-i-init
loop-i-init c = passing-none _ _ _ _ _ _

pub returns-in_err-check_plain : goal.returns-in_err-check_plain
returns-in_err-check_plain c =
    let sixteen : length c.args.tickets ≡ 16 = search rules in
    let i = c.loop-i.i in
    let e : i + 1 - i ≡ 1 = omega arith in
    λ s plain k.
    rw (passed _ _ c.from_residual.ensures.1)
    (passing-stops c.args.walk.now.order.now c.args.walk.now.cells.now c.args.walk.now.frame c.args.m c.args.tickets c.args.counters.now i c.loop-i.invariant c.loop-i-test.true sixteen c.requires.m_bound.0 _ (i + 1 - i) e _ c.in_err-check_plain.ensures (number-above _) s plain k)

pub loop-i-preserved : goal.loop-i-preserved
loop-i-preserved c =
    let sixteen : length c.args.tickets ≡ 16 = search rules in
    let i = c.loop-i.i in
    let e : i + 1 - i ≡ 1 = omega arith in
    passing-more c.args.walk.now.order.now c.args.walk.now.cells.now c.args.walk.now.frame c.args.m c.args.tickets c.args.counters.now i c.loop-i.invariant c.loop-i-test.true sixteen c.requires.m_bound.0 _ (i + 1 - i) e _ c.in_ok-check_plain.ensures refl

pub returns : goal.returns
returns c = passing-all c.args.walk.now.order.now c.args.walk.now.cells.now c.args.walk.now.frame c.args.m c.args.tickets c.args.counters.now _ c.loop-i.invariant c.loop-i-test.false
