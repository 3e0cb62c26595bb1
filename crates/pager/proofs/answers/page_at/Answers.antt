-- `pager::answers::page_at`: the position that the cursor names, or none; then the counter.
use mathlib.Core.Path.{sym, ◌∙◌}
use Rattle.pager.proofs.Counting.{passing}
use Rattle.pager.proofs.Answering.{page-lost, page-stale, page-found}
use Rattle.pager.proofs.answers.page_at.Goals as goal

pub returns-in_default : goal.returns-in_default
returns-in_default c = page-lost c.args.walk.now.frame c.args.walk.now.cells.now c.args.walk.now.hours.now c.args.walk.now.order.now c.args.walk.now.framing c.requires.0 c.args.ticket _ c.find.ensures c.args.counter.now c.args.budget c.args.table.now c.in_default.is _ c.refused_page.ensures

pub returns-then-not-agrees : goal.returns-then-not-agrees
returns-then-not-agrees c = page-stale c.args.walk.now.frame c.args.walk.now.cells.now c.args.walk.now.hours.now c.args.walk.now.order.now c.args.walk.now.framing c.requires.0 c.args.ticket _ c.find.ensures c.args.counter.now c.args.budget c.args.table.now _ c.in-Some.is (sym c.agrees.ensures ∙ c.if-not-agrees.true) _ c.refused_page-then-not-agrees.ensures

pub page_from-page-requires : goal.page_from-page-requires
page_from-page-requires c = (c.requires.0, (c.find.ensures.yes _ c.in-Some.is).0, (passing _ _ _ c.agrees.ensures c.if-not-agrees.false).1, c.requires.1)

pub write_count-requires : goal.write_count-requires
write_count-requires c = (passing _ _ _ c.agrees.ensures c.if-not-agrees.false).0

pub returns : goal.returns
returns c = page-found c.args.walk.now.frame c.args.walk.now.cells.now c.args.walk.now.hours.now c.args.walk.now.order.now c.args.walk.now.framing c.requires.0 c.args.ticket _ c.find.ensures c.args.counter.now c.args.budget c.args.table.now _ c.in-Some.is (sym c.agrees.ensures ∙ c.if-not-agrees.false) _ _ _ c.page_from-page.ensures c.write_count.ensures
