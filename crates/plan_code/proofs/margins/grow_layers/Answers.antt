use native.Mathlib.Omega.{arith}
use mathlib.Core.Path.{◌≡◌}
use Prim.Native.Nat.{◌+◌, ◌≤◌, ◌<◌}
use lib.ListN.{length, get_or, take}
use lib.Seq.{length-take-le, get_or-take}
use Rattle.lists.specs.Lists.{sum}
use Rattle.plan.proofs.Growing.{spread_none, spread-within, spread-room, spread-more, spread-all, part-reach, get-small}
use Rattle.plan_code.proofs.margins.grow_layers.Goals as goal

pub loop-j-init : goal.loop-j-init
loop-j-init c = spread_none _ _ _ _

pub offset_bounds-sizes-j : goal.offset_bounds-sizes-j
offset_bounds-sizes-j c = omega (arith, c.requires.sized)

pub bounds-sizes-j : goal.bounds-sizes-j
bounds-sizes-j c = omega (arith, c.requires.sized)

pub overflow_cast-size : goal.overflow_cast-size
overflow_cast-size c = omega (arith, c.shared_slice_known-in-loop-j-1.given c.loop-j.j)

pub layer_cells-requires : goal.layer_cells-requires
layer_cells-requires c =
    let one : let a = c.args in c.loop-j.j < length (take a.k a.sizes.now) = omega (arith, length-take-le c.args.k c.args.sizes.now c.requires.sized, c.loop-j-test.true) in
    let size : let a = c.args in get_or (take a.k a.sizes.now) c.loop-j.j 0 ≡ get_or a.sizes.now c.loop-j.j 0 = get_or-take _ _ c.loop-j.j 0 c.loop-j-test.true in
    let within : let a = c.args in c.loop-j.start + get_or a.sizes.now c.loop-j.j 0 ≤ sum (take a.k a.sizes.now) = let l = c.loop-j in spread-within _ _ _ _ l.run l.at l.start l.j l.invariant one _ size in
    omega (arith, within, c.requires.reach.whole)

pub offset_bounds-margins-j : goal.offset_bounds-margins-j
offset_bounds-margins-j c = omega (arith, c.requires.sized)

pub bounds-margins-j : goal.bounds-margins-j
bounds-margins-j c = omega (arith, c.requires.margined)

pub grow_layer-at-requires : goal.grow_layer-at-requires
grow_layer-at-requires c =
    let one : let a = c.args in c.loop-j.j < length (take a.k a.sizes.now) = omega (arith, length-take-le c.args.k c.args.sizes.now c.requires.sized, c.loop-j-test.true) in
    let size : let a = c.args in get_or (take a.k a.sizes.now) c.loop-j.j 0 ≡ get_or a.sizes.now c.loop-j.j 0 = get_or-take _ _ c.loop-j.j 0 c.loop-j-test.true in
    let within : let a = c.args in c.loop-j.start + get_or a.sizes.now c.loop-j.j 0 ≤ sum (take a.k a.sizes.now) = let l = c.loop-j in spread-within _ _ _ _ l.run l.at l.start l.j l.invariant one _ size in
    let l = c.loop-j in record {
      in_reach = (part-reach _ _ l.start _ _ c.requires.reach within c.layer_cells.ensures, get-small c.requires.small l.j);
      size_in_bounds = spread-room _ _ _ _ l.run l.at l.start l.j l.invariant one _ size c.requires.fits;
    }

pub overflow_add-start : goal.overflow_add-start
overflow_add-start c =
    let one : let a = c.args in c.loop-j.j < length (take a.k a.sizes.now) = omega (arith, length-take-le c.args.k c.args.sizes.now c.requires.sized, c.loop-j-test.true) in
    let size : let a = c.args in get_or (take a.k a.sizes.now) c.loop-j.j 0 ≡ get_or a.sizes.now c.loop-j.j 0 = get_or-take _ _ c.loop-j.j 0 c.loop-j-test.true in
    let within : let a = c.args in c.loop-j.start + get_or a.sizes.now c.loop-j.j 0 ≤ sum (take a.k a.sizes.now) = let l = c.loop-j in spread-within _ _ _ _ l.run l.at l.start l.j l.invariant one _ size in
    omega (arith, within, c.requires.reach.whole)

pub loop-j-preserved : goal.loop-j-preserved
loop-j-preserved c =
    let one : let a = c.args in c.loop-j.j < length (take a.k a.sizes.now) = omega (arith, length-take-le c.args.k c.args.sizes.now c.requires.sized, c.loop-j-test.true) in
    let size : let a = c.args in get_or (take a.k a.sizes.now) c.loop-j.j 0 ≡ get_or a.sizes.now c.loop-j.j 0 = get_or-take _ _ c.loop-j.j 0 c.loop-j-test.true in
    let l = c.loop-j in
    spread-more _ _ _ _ l.run l.at l.start l.j l.invariant one _ size _ _ _ c.layer_cells.ensures c.grow_layer-at.ensures

pub shape_of-run : goal.shape_of-run
shape_of-run c = c.loop-j.invariant.left.long

pub returns : goal.returns
returns c =
    let l = c.loop-j in
    spread-all _ _ _ _ l.run l.at l.start l.j l.invariant (omega (arith, length-take-le c.args.k c.args.sizes.now c.requires.sized, c.loop-j-test.false))
