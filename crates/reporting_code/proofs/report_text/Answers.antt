-- `report_text` refuses a text that is not accepted, and reports on the plan of any other.
use Rattle.std.proofs.Common.{◌≡◌, refl, ap}
use Rattle.plan.proofs.Causes.{number-above}
use Rattle.text.specs.Reader.{read_values}
use Rattle.reporting.proofs.Texts.{refused-reading, refused-reading-cause, plan-lent, plan-reading, plan-reading-cause, printed-same}
use Rattle.reporting_code.proofs.report_text.Goals as goal

pub returns-in-Err : goal.returns-in-Err
returns-in-Err c =
    let r = c.in-Err.ensures in
    let e = ap read_values r.answer in
    printed-same _ _ _ _ _ _ _ c.refuse.ensures (refused-reading-cause _ _ _ c.requires.0 c.requires.1 e r.number (number-above _)) (refused-reading _ _ _ c.requires.0 c.requires.1 e r.number (number-above _))

pub report_plan-requires : goal.report_plan-requires
report_plan-requires c =
    let r = c.in-Ok.ensures in
    (plan-lent _ _ _ c.requires.0 c.requires.1 (ap read_values r.answer) r.number _ refl r.buffer, c.requires.2)

pub returns-in-Ok : goal.returns-in-Ok
returns-in-Ok c =
    let r = c.in-Ok.ensures in
    let e = ap read_values r.answer in
    printed-same _ _ _ _ _ _ _ c.report_plan.ensures (plan-reading-cause _ _ _ c.requires.0 c.requires.1 e r.number _ refl r.buffer) (plan-reading _ _ _ c.requires.0 c.requires.1 e r.number _ refl r.buffer)
