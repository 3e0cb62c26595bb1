-- `pager::fresh_ticket`: a refusal, or the ticket of the whole walk and a counter of 0.
use Rattle.plan.proofs.Causes.{passed}
use Rattle.pager.proofs.Calls.{fresh-unordered, fresh-uncounted, fresh-long, fresh-made}
use Rattle.pager.proofs.fresh_ticket.Goals as goal

pub returns-in_err-cursor : goal.returns-in_err-cursor
returns-in_err-cursor c =
    let k = fresh-unordered c.args.shape c.args.cells.now c.args.order.now c.args.counter.now _ c.in_err-cursor.ensures in
    record { answer = rw (passed _ _ c.from_residual.ensures.1) k.0; counter = k.1 }

pub returns-in_err-check_counter : goal.returns-in_err-check_counter
returns-in_err-check_counter c =
    let k = fresh-uncounted c.args.shape c.args.cells.now c.args.order.now c.args.counter.now _ c.in_ok-cursor.ensures _ c.in_err-check_counter.ensures in
    record { answer = rw (passed _ _ c.from_residual-in_err-check_counter.ensures.1) k.0; counter = k.1 }

pub write_count-requires : goal.write_count-requires
write_count-requires c = fresh-long c.args.shape c.args.cells.now c.args.order.now c.args.counter.now _ c.in_ok-cursor.ensures c.in_ok-check_counter.ensures

pub returns : goal.returns
returns c =
    let k = fresh-made c.args.shape c.args.cells.now c.args.order.now c.args.counter.now _ c.in_ok-cursor.ensures c.in_ok-check_counter.ensures _ c.write_count.ensures in
    record { answer = k.0; counter = k.1 }
