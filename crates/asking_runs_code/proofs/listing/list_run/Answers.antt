-- `list_run` lists the rows that the run's table has.
use Rattle.std.proofs.Common.{◌≡◌, ap}
use Rattle.plan.specs.Causes.{by_number}
use Rattle.paging.specs.Answers.{ran}
use Rattle.asking_runs_code.proofs.PairRuns.{not-refused, rows-ran, rows_fit, count_fits, rows-listed}
use borrow.Author.Rules.{rules}
use Rattle.asking_runs_code.proofs.listing.list_run.Goals as goal

pub put_grown-at-requires : goal.put_grown-at-requires
put_grown-at-requires c =
    let d = c.in-Ok.done in
    let e : by_number c.args.run ≡ ran d.rows d.probes d.area d.ground = ap by_number c.in-Ok.is in
    record {
      sound = search (rules, rows-ran, rows_fit, e);
      fits_at = search (rules, rows-ran, rows_fit, e);
    }

pub overflow_add-all : goal.overflow_add-all
overflow_add-all c =
    let d = c.in-Ok.done in
    let e : by_number c.args.run ≡ ran d.rows d.probes d.area d.ground = ap by_number c.in-Ok.is in
    search (rules, count_fits, e)

pub returns-in-Err : goal.returns-in-Err
returns-in-Err c = absurd (not-refused _ _ _ _ c.requires.0 _ _ c.requires.2 _ (ap by_number c.in-Err.is))

pub returns-in-Ok : goal.returns-in-Ok
returns-in-Ok c =
    let d = c.in-Ok.done in
    let e : by_number c.args.run ≡ ran d.rows d.probes d.area d.ground = ap by_number c.in-Ok.is in
    search (rules, rows-listed, e)
