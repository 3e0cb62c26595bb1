-- `list_sound` makes the order and lists in it.
use Rattle.reporting.proofs.Reports.{swept}
use borrow.Author.Rules.{rules}
use Rattle.asking_runs_code.proofs.listing.list_sound.Goals as goal

pub list_ordered-requires : goal.list_ordered-requires
list_ordered-requires c =
    record {
      twofold = search (rules, swept);
      order_value = search (rules, swept);
    }
