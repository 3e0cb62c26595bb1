-- `seen_of`: each number is read back.
use mathlib.Core.Path.{refl, ap, ◌∙◌}
use Prim.Native.Nat.{ℕ, ◌+◌, ◌*◌, ◌/◌, ◌%◌}
use native.Mathlib.Omega.{arith}
use lib.IntN.{pos}
use Rattle.picture.proofs.Signs.{number_is, ◌then◌}
use Rattle.picture.proofs.Frames.{longer-few}
use borrow.Author.Rules.{sfits_of}
use Rattle.picture_code.proofs.views.seen_of.Goals as goal

pub overflow_add-longer_of : goal.overflow_add-longer_of
overflow_add-longer_of c =
    omega (
      arith,
      c.longer_of.ensures,
      c.requires.unit,
      longer-few c.args.frame.height (30 * c.args.frame.unit) 128849018880 (omega (arith, c.requires.height)) (omega (arith, c.requires.unit)),
    )

pub whole-h-requires : goal.whole-h-requires
whole-h-requires c =
    omega (
      arith,
      c.longer_of.ensures,
      c.requires.unit,
      longer-few c.args.frame.height (30 * c.args.frame.unit) 128849018880 (omega (arith, c.requires.height)) (omega (arith, c.requires.unit)),
    )

pub returns : goal.returns
returns c =
    let u = c.args.frame.unit in
    let e = number_is (sfits_of c.whole-e.type_inv) c.whole-e.ensures in
    let w = number_is (sfits_of c.whole-w.type_inv) c.whole-w.ensures in
    let h = number_is (sfits_of c.whole-h.type_inv) (c.whole-h.ensures ∙ ap (λ (n : ℕ). pos (n + 10 * u)) c.longer_of.ensures) in
    (e)
    then ((e)
    then ((w)
    then ((h)
    then ((number_is (sfits_of c.whole.type_inv) (c.whole.ensures ∙ ap (λ (n : ℕ). pos (n / 10)) c.width_of-line.ensures.0))
    then ((number_is (sfits_of c.whole-2.type_inv) (c.whole-2.ensures ∙ ap (λ (n : ℕ). pos (n % 10)) c.width_of-line.ensures.0))
    then ((number_is (sfits_of c.whole-3.type_inv) (c.whole-3.ensures ∙ ap (λ (n : ℕ). pos (n / 10)) c.width_of-hatch.ensures.0))
    then ((number_is (sfits_of c.whole-4.type_inv) (c.whole-4.ensures ∙ ap (λ (n : ℕ). pos (n % 10)) c.width_of-hatch.ensures.0))
    then ((number_is (sfits_of c.whole-5.type_inv) c.whole-5.ensures)
    then ((number_is (sfits_of c.whole-6.type_inv) c.whole-6.ensures)
    then ((number_is (sfits_of c.whole-7.type_inv) c.whole-7.ensures)
    then ((number_is (sfits_of c.whole-8.type_inv) c.whole-8.ensures)
    then ((number_is (sfits_of c.whole-9.type_inv) (c.whole-9.ensures ∙ ap (λ (n : ℕ). pos (n / 10)) c.width_of-thick.ensures.0))
    then ((number_is (sfits_of c.whole-10.type_inv) (c.whole-10.ensures ∙ ap (λ (n : ℕ). pos (n % 10)) c.width_of-thick.ensures.0))
    then ((e)
    then ((e)
    then ((w)
    then ((h) then refl)))))))))))))))))
