-- `list_two` puts the plan of the two layers together, and lists its rows.
use mathlib.Core.Path.{refl}
use Rattle.asking.specs.Pairs.{two_shape}
use Rattle.asking_runs_code.proofs.TwoPlans.{both_below, both-there, both-room, made_inside, made-long, twofold, two-listable, two-listed}
use borrow.Author.Rules.{rules}
use Rattle.asking_runs_code.proofs.listing.list_two.Goals as goal

pub put_two-n-requires : goal.put_two-n-requires
put_two-n-requires c =
    let p = c.requires.sound in record {
      layer_there = both-there c.args.shape c.args.cells.now c.args.i c.args.j p.0 p.1 p.2;
      j_in_bounds = both-room c.args.shape c.args.cells.now c.args.i c.args.j p.0 p.1 p.2;
    }

pub two_shape-requires : goal.two_shape-requires
two_shape-requires c =
    let p = c.requires.sound in
    both_below c.args.shape c.args.cells.now c.args.i c.args.j p.0 p.1 p.2

pub slice_bounds-run-end : goal.slice_bounds-run-end
slice_bounds-run-end c = search (rules, made_inside)

pub slice_bounds-list_plan-end : goal.slice_bounds-list_plan-end
slice_bounds-list_plan-end c =
    let p = c.requires.sound in
    made-long c.args.shape c.args.cells.now c.args.i c.args.j p.0 p.1 p.2 (two_shape c.args.shape c.args.i c.args.j) refl _ _ _ refl c.put_two-n.ensures

pub list_plan-requires : goal.list_plan-requires
list_plan-requires c =
    let p = c.requires.sound in
    let e = c.two_shape.ensures in
    let f = c.put_two-n.ensures in
    (twofold c.args.shape c.args.cells.now c.args.i c.args.j p.0 p.1 p.2 _ e _ _ _ refl f, p.3, two-listable c.args.shape c.args.cells.now c.args.i c.args.j p.0 p.1 p.2 _ e _ _ _ refl f _ _ c.requires.listable)

pub returns : goal.returns
returns c =
    let p = c.requires.sound in
    let e = c.two_shape.ensures in
    let f = c.put_two-n.ensures in
    let r = c.list_plan.ensures in
    (two-listed c.args.shape c.args.cells.now c.args.i c.args.j p.0 p.1 p.2 _ e _ _ _ refl f _ _ _ _ r.0, r.1)
