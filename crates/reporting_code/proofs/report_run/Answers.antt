-- `report_run` puts the refusal, or the table and the total, as the run tells.
use borrow.Author.Rules.{rules}
use Rattle.std.proofs.Common.{◌≡◌, ap}
use Rattle.plan.specs.Causes.{number_of, by_number}
use Rattle.paging.specs.Answers.{ran}
use Rattle.std.specs.Prelude.{Err}
use Rattle.reporting.proofs.Runs.{refused-report, refused-cause, run-printed, total_kept, rows_run, lines-room}
use Rattle.reporting.proofs.Texts.{printed-same}
use Rattle.reporting_code.proofs.report_run.Goals as goal

pub put_grown-size-requires : goal.put_grown-size-requires
put_grown-size-requires c =
    let d = c.in-Ok.done in
    let e : by_number c.args.run ≡ ran d.rows d.probes d.area d.ground = ap by_number c.in-Ok.is in
    record {
      sound = (c.requires.0.sound, rows_run _ _ _ _ c.requires.0 _ _ _ _ e, total_kept _ _ _ _ c.requires.0 _ _ _ _ e);
      fits_at = lines-room _ _ _ _ c.requires.0 _ _ _ _ e _ c.requires.1;
    }

pub returns-in-Err : goal.returns-in-Err
returns-in-Err c =
    let e : by_number c.args.run ≡ Err (number_of c.in-Err.cause) = ap by_number c.in-Err.is in
    printed-same _ _ _ _ _ _ _ c.refuse.ensures (refused-cause _ _ _ _ c.requires.0 _ e) (refused-report _ _ _ _ c.requires.0 _ e)

pub returns-in-Ok : goal.returns-in-Ok
returns-in-Ok c =
    let d = c.in-Ok.done in
    let e : by_number c.args.run ≡ ran d.rows d.probes d.area d.ground = ap by_number c.in-Ok.is in
    run-printed _ _ _ _ c.requires.0 _ _ _ _ e _ _ _ c.put_grown-size.ensures
