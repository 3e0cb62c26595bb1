-- `prepare` refuses a text that is too long or not accepted, and makes the order of any other's plan.
use Rattle.std.proofs.Common.{◌≡◌, refl, ap}
use Rattle.plan.proofs.Causes.{number-above, passed}
use Rattle.text.specs.Reader.{read_values}
use Rattle.listing.proofs.Plans.{long-refused, read-refused, read-lent, read-ready}
use Rattle.listing_code.proofs.plans.prepare.Goals as goal

pub returns-then-text-gt-LONGEST_INPUT : goal.returns-then-text-gt-LONGEST_INPUT
returns-then-text-gt-LONGEST_INPUT c = long-refused _ _ _ _ c.if-text-gt-LONGEST_INPUT.true refl

pub returns-in_err-shape : goal.returns-in_err-shape
returns-in_err-shape c =
    let r = c.in_err-shape.ensures in
    rw (passed _ _ c.from_residual.ensures.1) (read-refused _ _ _ c.if-text-gt-LONGEST_INPUT.false c.requires.0 (ap read_values r.answer) r.number _ _ (number-above _))

pub order_plan-requires : goal.order_plan-requires
order_plan-requires c =
    let r = c.in_ok-shape.ensures in
    (read-lent _ _ _ c.if-text-gt-LONGEST_INPUT.false c.requires.0 (ap read_values r.answer) r.number _ refl r.buffer, c.requires.1)

pub returns : goal.returns
returns c =
    let r = c.in_ok-shape.ensures in
    read-ready _ _ _ c.if-text-gt-LONGEST_INPUT.false c.requires.0 (ap read_values r.answer) r.number _ refl r.buffer _ c.order_plan.ensures
