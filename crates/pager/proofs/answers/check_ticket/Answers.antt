-- `pager::answers::check_ticket`: the position that the cursor names, or none; then the counter.
use mathlib.Core.Path.{sym, ◌∙◌}
use Rattle.pager.proofs.Answering.{none-is, some-is, cause-lost, cause-stale, cause-none}
use Rattle.pager.proofs.answers.check_ticket.Goals as goal

pub returns-then-is_none : goal.returns-then-is_none
returns-then-is_none c = cause-lost c.args.walk.now.frame c.args.walk.now.cells.now c.args.walk.now.hours.now c.args.walk.now.order.now c.args.walk.now.framing c.requires.0 c.args.ticket _ c.find.ensures c.args.counter.now (none-is c.find.result c.if-is_none.ensures)

pub returns-then-not-agrees : goal.returns-then-not-agrees
returns-then-not-agrees c =
    let s = some-is c.find.result c.if-is_none.ensures in
    cause-stale c.args.walk.now.frame c.args.walk.now.cells.now c.args.walk.now.hours.now c.args.walk.now.order.now c.args.walk.now.framing c.requires.0 c.args.ticket _ c.find.ensures c.args.counter.now s.0 s.1 (sym c.agrees.ensures ∙ c.if-not-agrees.true)

pub returns : goal.returns
returns c =
    let s = some-is c.find.result c.if-is_none.ensures in
    cause-none c.args.walk.now.frame c.args.walk.now.cells.now c.args.walk.now.hours.now c.args.walk.now.order.now c.args.walk.now.framing c.requires.0 c.args.ticket _ c.find.ensures c.args.counter.now s.0 s.1 (sym c.agrees.ensures ∙ c.if-not-agrees.false)
