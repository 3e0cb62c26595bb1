-- `nearest_code::squared_gap`: of a box in range and a rectangle in the extent the squares and their sum are far below 2^64.
use borrow.Author.Rules.{rules}
use mathlib.Core.Path.{◌≡◌}
use Prim.Native.Nat.{◌+◌, ◌*◌}
use Rattle.geometry.proofs.Machine.{Fitting, square-fits}
use Rattle.nearest.specs.Nearest.{squared_gap}
use Rattle.nearest.proofs.Gaps.{read-gap, gap-fits}
use Rattle.nearest_code.proofs.squared_gap.Goals as goal

pub overflow_mul-result : goal.overflow_mul-result
overflow_mul-result c = let x = c.axis_gap-x in square-fits x.ensures.1 x.ensures.1

pub overflow_mul-result-2 : goal.overflow_mul-result-2
overflow_mul-result-2 c = square-fits c.axis_gap-y.ensures.1 c.axis_gap-y.ensures.1

pub overflow_add-result : goal.overflow_add-result
overflow_add-result c =
    let fits-a : Fitting c.args.a = search rules in
    let fits-r : Fitting c.args.r = search rules in
    let sum : let x = c.axis_gap-x.result in x * x + c.axis_gap-y.result * c.axis_gap-y.result ≡ squared_gap c.args.a c.args.r = read-gap c.args.a c.args.r fits-a fits-r _ _ c.axis_gap-x.ensures.0 c.axis_gap-y.ensures.0 in
    gap-fits c.args.a c.args.r _ c.requires.a_value c.requires.r_value sum

pub returns : goal.returns
returns c =
    let fits-a : Fitting c.args.a = search rules in
    let fits-r : Fitting c.args.r = search rules in
    let sum : let x = c.axis_gap-x.result in x * x + c.axis_gap-y.result * c.axis_gap-y.result ≡ squared_gap c.args.a c.args.r = read-gap c.args.a c.args.r fits-a fits-r _ _ c.axis_gap-x.ensures.0 c.axis_gap-y.ensures.0 in
    sum
