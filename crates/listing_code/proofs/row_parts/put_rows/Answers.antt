use Rattle.listing.proofs.Rows.{next-put}
use borrow.Author.Rules.{rules}
use Rattle.listing_code.proofs.row_parts.put_rows.Goals as goal

pub loop-preserved : goal.loop-preserved
loop-preserved g c =
    let s = c.split_at.ensures in
    next-put _ _ _ _ _ _ _ _ _ _ _ c.loop.invariant c.loop-test.true _ _ (search rules) (search rules) _ _ c.put-at.ensures
