-- `put_houred` puts the row's line and, over the byte that ended it, its shared minutes.
use borrow.Author.Rules.{rules}
use Rattle.listing.proofs.Hours.{some-layer, row_fits, hour-first, hour-some, hour-last, hour-more}
use Rattle.listing_runs_code.proofs.hour_lines.put_houred.Goals as goal

pub put_joined-end-requires : goal.put_joined-end-requires
put_joined-end-requires c =
    record {
      k_in_bounds = search (rules, hour-first);
      row_value = search (rules, hour-first);
      fits_at = search (rules, hour-first);
    }

pub row_minutes-w-requires : goal.row_minutes-w-requires
row_minutes-w-requires c =
    record {
      le_k = search (rules, some-layer, row_fits);
      row_value = search (rules, some-layer, row_fits);
      sizes_in_bounds = search (rules, some-layer, row_fits);
    }

pub overflow_sub-end : goal.overflow_sub-end
overflow_sub-end c = search (rules, hour-some)

pub put_two_fields-requires : goal.put_two_fields-requires
put_two_fields-requires c = search (rules, hour-last)

pub returns : goal.returns
returns c = search (rules, hour-more)
