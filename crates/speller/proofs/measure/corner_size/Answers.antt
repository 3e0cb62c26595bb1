-- `corner_size` adds up two numbers, and the byte behind each.
use native.Mathlib.Omega.{arith}
use mir.Syntax.{w32}
use mir.Val.{SFits}
use mir.Facts.{to_z-of_z}
use mathlib.Core.Path.{◌≡◌}
use lib.ListN.{length}
use Rattle.decimal.specs.Numerals.{numeral}
use Rattle.decimal.proofs.Numerals.{numeral-few}
use Rattle.speller.proofs.measure.corner_size.Goals as goal

pub overflow_add-result : goal.overflow_add-result
overflow_add-result c =
    let f : SFits w32 c.args.x = c.ranges.x in
    let e : c.numeral_size.result ≡ length (numeral c.args.x) = simp to_z-of_z at c.numeral_size.ensures in
    omega (arith, e, numeral-few c.args.x)

pub overflow_add-result-2 : goal.overflow_add-result-2
overflow_add-result-2 c =
    let f : SFits w32 c.args.x = c.ranges.x in
    let g : SFits w32 c.args.y = c.ranges.y in
    let e : c.numeral_size.result ≡ length (numeral c.args.x) = simp to_z-of_z at c.numeral_size.ensures in
    let k : c.numeral_size-2.result ≡ length (numeral c.args.y) = simp to_z-of_z at c.numeral_size-2.ensures in
    omega (arith, e, k, numeral-few c.args.x, numeral-few c.args.y)

pub returns : goal.returns
returns c =
    let f : SFits w32 c.args.x = c.ranges.x in
    let g : SFits w32 c.args.y = c.ranges.y in
    let e : c.numeral_size.result ≡ length (numeral c.args.x) = simp to_z-of_z at c.numeral_size.ensures in
    let k : c.numeral_size-2.result ≡ length (numeral c.args.y) = simp to_z-of_z at c.numeral_size-2.ensures in
    omega (arith, e, k)
