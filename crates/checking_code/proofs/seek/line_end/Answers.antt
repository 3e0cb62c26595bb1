use Rattle.checking.proofs.Ends.{ends_at}
use Rattle.checking_code.proofs.seek.line_end.Goals as goal

pub returns : goal.returns
returns c = ends_at _ _ _ c.requires c.next_part.ensures
