-- `nearest_code::gap_within`: of a box in range and a rectangle in the extent the squares and their sum are far below 2^64.
use borrow.Author.Rules.{rules}
use native.Mathlib.Omega.{arith}
use Rattle.geometry.proofs.Machine.{Fitting, square-fits}
use Rattle.nearest.proofs.Gaps.{read-gap, gap-fits, across-most}
use Rattle.nearest_code.proofs.gap_within.Goals as goal

pub overflow_mul-across : goal.overflow_mul-across
overflow_mul-across c = square-fits c.axis_gap-x.ensures.1 c.axis_gap-x.ensures.1

pub returns-then-least-across : goal.returns-then-least-across
returns-then-least-across c =
    let fits-a : Fitting c.args.a = search rules in
    let fits-r : Fitting c.args.r = search rules in
    let m = across-most c.args.a c.args.r fits-a fits-r _ c.axis_gap-x.ensures.0 in
    record { less = λ h. absurd (omega arith); more = λ h. omega (arith, c.if-least-across.true) }

pub overflow_mul-result : goal.overflow_mul-result
overflow_mul-result c = square-fits c.axis_gap-y.ensures.1 c.axis_gap-y.ensures.1

pub overflow_add-result : goal.overflow_add-result
overflow_add-result c =
    let fits-a : Fitting c.args.a = search rules in
    let fits-r : Fitting c.args.r = search rules in
    gap-fits c.args.a c.args.r _ c.requires.a_value c.requires.r_value (read-gap c.args.a c.args.r fits-a fits-r _ _ c.axis_gap-x.ensures.0 c.axis_gap-y.ensures.0)

pub returns : goal.returns
returns c =
    let fits-a : Fitting c.args.a = search rules in
    let fits-r : Fitting c.args.r = search rules in
    let e = read-gap c.args.a c.args.r fits-a fits-r _ _ c.axis_gap-x.ensures.0 c.axis_gap-y.ensures.0 in
    record { less = λ h. e; more = λ h. omega (arith, e) }
