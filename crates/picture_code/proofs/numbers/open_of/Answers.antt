-- `open_of`: each number is read back.
use mathlib.Core.Path.{refl}
use mir.Syntax.{w32}
use mir.Val.{SFits}
use Rattle.picture.proofs.Signs.{number_is, minus_is, ◌then◌}
use borrow.Author.Rules.{rules, sfits_of}
use Rattle.picture_code.proofs.numbers.open_of.Goals as goal

pub returns : goal.returns
returns c =
    let left : SFits w32 c.args.frame.left = search rules in
    let top : SFits w32 c.args.frame.top = search rules in
    (number_is (sfits_of c.whole.type_inv) c.whole.ensures)
    then ((minus_is (sfits_of c.minus.type_inv) left c.minus.ensures)
    then ((minus_is (sfits_of c.minus-2.type_inv) top c.minus-2.ensures) then refl))
