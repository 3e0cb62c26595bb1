-- `tell_lent` takes the plan's cells and order, and a buffer for the table.
use Rattle.outcomes.proofs.Outcomes.{told_same}
use Rattle.listing.proofs.Plans.{ready-cells, ready-order, ready-sound, ready-swept, lent-said}
use borrow.Author.Rules.{rules}
use Rattle.listing_code.proofs.plans.tell_lent.Goals as goal

pub slice_bounds-tell-end : goal.slice_bounds-tell-end
slice_bounds-tell-end g c = search (rules, ready-cells)

pub slice_bounds-tell-end-2 : goal.slice_bounds-tell-end-2
slice_bounds-tell-end-2 g c = search (rules, ready-order)

pub tell-requires : goal.tell-requires
tell-requires g c = record { plan = search (rules, ready-sound, ready-swept); room = search rules }

pub returns : goal.returns
returns g c =
    told_same _ _ _ _ _ _ _ c.tell.ensures (lent-said c.args.shape c.args.lent.now c.args.order.now c.requires.0 c.count_of-n.result c.count_of-n.ensures.0 (g.C.PlanCommand.say c.args.command.now))
