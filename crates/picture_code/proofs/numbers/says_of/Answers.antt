-- `says_of`: each number is read back.
use mathlib.Core.Path.{refl}
use Rattle.picture.proofs.Signs.{number_is, ◌then◌}
use borrow.Author.Rules.{sfits_of}
use Rattle.picture_code.proofs.numbers.says_of.Goals as goal

pub returns : goal.returns
returns c =
    (number_is (sfits_of c.whole.type_inv) c.whole.ensures)
    then ((number_is (sfits_of c.whole-2.type_inv) c.whole-2.ensures)
    then ((number_is (sfits_of c.whole-3.type_inv) c.whole-3.ensures)
    then ((number_is (sfits_of c.whole-4.type_inv) c.whole-4.ensures) then refl)))
