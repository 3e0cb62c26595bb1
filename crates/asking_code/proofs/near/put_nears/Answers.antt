use native.Mathlib.Omega.{arith}
use Prim.Native.Nat.{◌<◌}
use lib.ListN.{length-take}
use lib.Seq.{get_or-take}
use Rattle.asking_code.proofs.NearLines.{none-put, all-put, next-room, next-put}
use Rattle.asking_code.proofs.near.put_nears.Goals as goal

pub loop-j-init : goal.loop-j-init
loop-j-init c = none-put _ _ _ c.requires.room

pub put_near-requires : goal.put_near-requires
put_near-requires c =
    let h : c.loop-j.j < c.args.k = omega (arith, c.loop-j-test.true, length-take c.args.k c.args.layers) in
    let is = get_or-take c.args.k c.args.layers c.loop-j.j _ h in
    (rw is (c.requires.k_bound.1.small c.loop-j.j (omega (arith, h, c.requires.k_bound.0))), next-room _ _ _ _ _ c.loop-j.invariant h _ is)

pub loop-j-preserved : goal.loop-j-preserved
loop-j-preserved c =
    let h : c.loop-j.j < c.args.k = omega (arith, c.loop-j-test.true, length-take c.args.k c.args.layers) in
    next-put _ _ _ _ _ c.loop-j.invariant h _ (get_or-take c.args.k c.args.layers c.loop-j.j _ h) _ c.put_near.ensures

pub returns : goal.returns
returns c = all-put _ _ _ _ _ c.loop-j.invariant (omega (arith, c.loop-j-test.false, length-take c.args.k c.args.layers, c.requires.k_bound.0))
