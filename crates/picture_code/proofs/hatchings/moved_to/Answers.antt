-- `moved_to`: 64 bits hold it.
use native.Mathlib.Omega.{arith}
use Rattle.picture.proofs.Signs.{number_is, coordinate-is}
use Rattle.picture.proofs.Hatchings.{down_fits, up_fits, moved-is}
use borrow.Author.Rules.{sfits_of}
use Rattle.picture_code.proofs.hatchings.moved_to.Goals as goal

pub overflow_sub-result : goal.overflow_sub-result
overflow_sub-result c =
    let x = coordinate-is (sfits_of c.wide.type_inv) c.ranges.a c.wide.ensures in
    let y = number_is (sfits_of c.whole.type_inv) c.whole.ensures in
    down_fits x y c.ranges.a (omega arith)

pub overflow_add-result : goal.overflow_add-result
overflow_add-result c =
    let x = coordinate-is (sfits_of c.wide.type_inv) c.ranges.a c.wide.ensures in
    let y = number_is (sfits_of c.whole.type_inv) c.whole.ensures in
    let z = number_is (sfits_of c.whole-2.type_inv) c.whole-2.ensures in
    up_fits x y c.ranges.a (omega arith) z c.requires

pub returns : goal.returns
returns c =
    let x = coordinate-is (sfits_of c.wide.type_inv) c.ranges.a c.wide.ensures in
    let y = number_is (sfits_of c.whole.type_inv) c.whole.ensures in
    let z = number_is (sfits_of c.whole-2.type_inv) c.whole-2.ensures in
    moved-is x y c.ranges.a (omega arith) z c.requires
