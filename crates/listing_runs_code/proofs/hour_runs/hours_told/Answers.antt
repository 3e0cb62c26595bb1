-- `hours_told` tells the refusal, or puts the lines.
use borrow.Author.Rules.{rules}
use Rattle.std.proofs.Common.{◌≡◌, ap}
use Rattle.plan.specs.Causes.{by_number}
use Rattle.paging.specs.Answers.{ran}
use Rattle.outcomes.proofs.Outcomes.{told_same}
use Rattle.listing.proofs.Hours.{hours-enough, timed-refused, timed-rows, timed-kept, timed-room, timed-told}
use Rattle.listing_runs_code.proofs.hour_runs.hours_told.Goals as goal

pub put_hour_grown-n-requires : goal.put_hour_grown-n-requires
put_hour_grown-n-requires c =
    let d = c.in-Ok.done in
    let e : by_number c.args.run ≡ ran d.rows d.probes d.area d.ground = ap by_number c.in-Ok.is in
    record {
      sound = search (rules, timed-rows, hours-enough, timed-kept, timed-room, e);
      fits_at = search (rules, timed-rows, hours-enough, timed-kept, timed-room, e);
    }

pub returns-in-Err : goal.returns-in-Err
returns-in-Err c = told_same _ _ _ _ _ _ _ c.put_refusal.ensures (timed-refused _ _ _ _ _ c.requires.0 _ (ap by_number c.in-Err.is))

pub returns-in-Ok : goal.returns-in-Ok
returns-in-Ok c =
    let d = c.in-Ok.done in
    let e : by_number c.args.run ≡ ran d.rows d.probes d.area d.ground = ap by_number c.in-Ok.is in
    rw c.done.ensures (search (rules, timed-told, e))
