-- `list_plan` takes as much of the order's buffer as the plan has rectangles.
use Rattle.asking_runs_code.proofs.PairRuns.{order-fits, order-long}
use borrow.Author.Rules.{rules}
use Rattle.asking_runs_code.proofs.listing.list_plan.Goals as goal

pub slice_bounds-order-end : goal.slice_bounds-order-end
slice_bounds-order-end c = search (rules, order-fits)

pub slice_bounds-list_sound-end : goal.slice_bounds-list_sound-end
slice_bounds-list_sound-end c = search (rules, order-long)

pub list_sound-requires : goal.list_sound-requires
list_sound-requires c =
    record {
      twofold = search (rules, order-long);
      order_len = search (rules, order-long);
    }
