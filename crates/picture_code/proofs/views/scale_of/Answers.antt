-- `scale_of`: each number is read back.
use mathlib.Core.Path.{refl, ap, ◌∙◌}
use Prim.Native.Nat.{ℕ, ◌/◌, ◌%◌}
use lib.IntN.{pos}
use Rattle.picture.proofs.Signs.{number_is, ◌then◌}
use borrow.Author.Rules.{sfits_of}
use Rattle.picture_code.proofs.views.scale_of.Goals as goal

pub returns : goal.returns
returns c =
    let x = number_is (sfits_of c.whole-x.type_inv) c.whole-x.ensures in
    let v = number_is (sfits_of c.whole-v.type_inv) c.whole-v.ensures in
    (x)
    then ((v)
    then ((number_is (sfits_of c.whole.type_inv) c.whole.ensures)
    then ((x)
    then ((number_is (sfits_of c.whole-2.type_inv) c.whole-2.ensures)
    then ((number_is (sfits_of c.whole-3.type_inv) (c.whole-3.ensures ∙ ap (λ (b : ℕ). pos (b)) c.bar_of-b.ensures.0))
    then ((v)
    then ((number_is (sfits_of c.whole-4.type_inv) (c.whole-4.ensures ∙ ap (λ (b : ℕ). pos (b / 1000)) c.bar_of-b.ensures.0))
    then ((number_is (sfits_of c.whole-5.type_inv) (c.whole-5.ensures ∙ ap (λ (b : ℕ). pos (b / 100 % 10)) c.bar_of-b.ensures.0))
    then ((number_is (sfits_of c.whole-6.type_inv) (c.whole-6.ensures ∙ ap (λ (b : ℕ). pos (b / 10 % 10)) c.bar_of-b.ensures.0))
    then ((number_is (sfits_of c.whole-7.type_inv) (c.whole-7.ensures ∙ ap (λ (b : ℕ). pos (b % 10)) c.bar_of-b.ensures.0)) then refl))))))))))
