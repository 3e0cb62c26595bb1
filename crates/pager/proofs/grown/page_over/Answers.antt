-- `pager::grown::page_over`: a refusal by 5, or the page at the ticket.
use borrow.Author.Rules.{rules}
use native.Mathlib.Omega.{arith}
use Rattle.plan.specs.Plan.{Typed}
use Rattle.slots.proofs.Frames.{framing-over}
use Rattle.pager.proofs.Calls.{ordered, timing, misordered, admitted, page_refused, page-made}
use Rattle.pager.proofs.grown.page_over.Goals as goal

pub returns-then-not-is_order : goal.returns-then-not-is_order
returns-then-not-is_order c =
    λ cells h is.
    page_refused c.args.timed c.args.shape cells c.args.hours.now c.args.order.now c.args.ticket c.args.counter.now c.args.budget c.args.table.now 5 (misordered c.args.timed c.args.shape c.args.hours.now c.args.order.now c.requires.hourly.0 c.args.grown.now c.is_order.ensures c.if-not-is_order.true cells h is) (λ e. omega arith) _
    c.refused_page.ensures

pub frame_of-frame-requires : goal.frame_of-frame-requires
frame_of-frame-requires c =
    let typed : Typed c.args.shape = record { sizes = search rules; margins = search rules } in
    (omega (arith, typed.sizes, c.requires.k_in_bounds.0), c.requires.k_in_bounds.1.small)

pub page_at-requires : goal.page_at-requires
page_at-requires c = (ordered c.args.order.now c.args.grown.now c.is_order.ensures c.if-not-is_order.false, timing c.args.timed c.args.shape c.frame_of-frame.result c.args.hours.now c.frame_of-frame.ensures c.requires.hourly.1)

pub invariant_of-walk : goal.invariant_of-walk
invariant_of-walk c =
    let typed : Typed c.args.shape = record { sizes = search rules; margins = search rules } in
    record { framing = framing-over c.args.shape c.args.grown.now c.frame_of-frame.result c.args.timed typed c.requires.k_in_bounds c.frame_of-frame.ensures }

pub returns : goal.returns
returns c =
    λ cells h is.
    page-made c.args.timed c.args.shape cells c.args.hours.now c.args.order.now c.args.ticket c.args.counter.now c.args.budget c.args.table.now c.args.grown.now c.frame_of-frame.result
    (admitted c.args.timed c.args.shape c.args.hours.now c.args.order.now c.requires.hourly.0 c.args.grown.now c.is_order.ensures c.if-not-is_order.false c.frame_of-frame.result c.frame_of-frame.ensures cells h is) _ _ _ c.page_at.ensures
