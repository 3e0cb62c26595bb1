-- `cross_of`: each number is read back.
use mathlib.Core.Path.{refl}
use Rattle.geometry.proofs.Machine.{Fitting}
use Rattle.picture.proofs.Signs.{number_is, coordinate-is, ◌then◌}
use borrow.Author.Rules.{rules, sfits_of}
use Rattle.picture_code.proofs.numbers.cross_of.Goals as goal

pub returns : goal.returns
returns c =
    let fits : Fitting c.args.r = search rules in
    let f = fits in
    (coordinate-is (sfits_of c.wide.type_inv) f.left c.wide.ensures)
    then ((coordinate-is (sfits_of c.wide-2.type_inv) f.bottom c.wide-2.ensures)
    then ((number_is (sfits_of c.whole.type_inv) c.whole.ensures) then refl))
