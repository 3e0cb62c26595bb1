-- `order_plan` takes the plan's cells, and as much of the order's buffer as it has rectangles.
use Rattle.listing.proofs.Plans.{lent-part, part-few, order-part, order-ready}
use borrow.Author.Rules.{rules}
use Rattle.listing_code.proofs.plans.order_plan.Goals as goal

pub slice_bounds-make_order-end : goal.slice_bounds-make_order-end
slice_bounds-make_order-end c = search (rules, lent-part)

pub slice_bounds-make_order-end-2 : goal.slice_bounds-make_order-end-2
slice_bounds-make_order-end-2 c = search (rules, part-few)

pub slice_bounds-make_order-end-3 : goal.slice_bounds-make_order-end-3
slice_bounds-make_order-end-3 c = search (rules, order-part)

pub returns : goal.returns
returns c = search (rules, order-ready)
