-- `points_in`: each number is read back.
use mathlib.Core.Path.{refl}
use Rattle.picture.proofs.Signs.{number_is, ◌then◌}
use borrow.Author.Rules.{sfits_of}
use Rattle.picture_code.proofs.hatchings.points_in.Goals as goal

pub returns : goal.returns
returns c =
    (number_is (sfits_of c.across.type_inv) c.across.ensures)
    then ((number_is (sfits_of c.upward.type_inv) c.upward.ensures)
    then ((number_is (sfits_of c.across-2.type_inv) c.across-2.ensures)
    then ((number_is (sfits_of c.upward-2.type_inv) c.upward-2.ensures)
    then ((number_is (sfits_of c.across-3.type_inv) c.across-3.ensures)
    then ((number_is (sfits_of c.upward-3.type_inv) c.upward-3.ensures)
    then ((number_is (sfits_of c.across-4.type_inv) c.across-4.ensures)
    then ((number_is (sfits_of c.upward-4.type_inv) c.upward-4.ensures)
    then ((number_is (sfits_of c.across-5.type_inv) c.across-5.ensures)
    then ((number_is (sfits_of c.upward-5.type_inv) c.upward-5.ensures)
    then ((number_is (sfits_of c.across-6.type_inv) c.across-6.ensures)
    then ((number_is (sfits_of c.upward-6.type_inv) c.upward-6.ensures) then refl)))))))))))
