-- `picture_told` tells the refusal, or draws the plan.
use borrow.Author.Rules.{rules}
use Rattle.std.proofs.Common.{◌≡◌, ap}
use Rattle.plan.specs.Causes.{by_number}
use Rattle.paging.specs.Answers.{ran}
use Rattle.outcomes.proofs.Outcomes.{told_same}
use Rattle.picture.proofs.Runs.{picture-refused, run-rows, run-many, picture-room, picture-told}
use Rattle.picture_code.proofs.picture_told.Goals as goal

pub put_plan-requires : goal.put_plan-requires
put_plan-requires c =
    let d = c.in-Ok.done in
    let e : by_number c.args.run ≡ ran d.rows d.probes d.area d.ground = ap by_number c.in-Ok.is in
    record {
      sound = search (rules, run-rows, run-many, picture-room, e);
      fits_at = search (rules, run-rows, run-many, picture-room, e);
    }

pub returns-in-Err : goal.returns-in-Err
returns-in-Err c = told_same _ _ _ _ _ _ _ c.put_refusal.ensures (picture-refused _ _ _ _ c.requires.0 _ (ap by_number c.in-Err.is))

pub returns-in-Ok : goal.returns-in-Ok
returns-in-Ok c =
    let d = c.in-Ok.done in
    let e : by_number c.args.run ≡ ran d.rows d.probes d.area d.ground = ap by_number c.in-Ok.is in
    rw c.done.ensures (search (rules, picture-told, e))
