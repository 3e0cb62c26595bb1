-- `put_report` has the report put, and adds what a refusal means.
use Rattle.std.proofs.Common.{◌≡◌, ap, ◌∙◌}
use Rattle.plan.specs.Causes.{refusal}
use Rattle.plan.proofs.Causes.{number-above}
use Rattle.commands.proofs.Outcomes.{report-done, report-refused}
use borrow.Author.Rules.{rules}
use Rattle.commands_code.proofs.answers.put_report.Goals as goal

pub returns-in-Ok : goal.returns-in-Ok
returns-in-Ok c = rw c.done.ensures (report-done _ _ _ _ _ c.requires c.report_on-printed.ensures (ap refusal c.in-Ok.is))

pub returns-in-Err : goal.returns-in-Err
returns-in-Err c =
    let e = ap refusal c.in-Err.is in
    rw c.refused.ensures (report-refused _ _ _ _ _ c.requires c.report_on-printed.ensures _ _ (λ z. number-above c.in-Err.cause (search (rules, e, z))) (rw e c.put_cause.ensures))
