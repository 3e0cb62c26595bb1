-- `put_colon` puts one behind the other.
use Rattle.printing.proofs.Puts.{put_both}
use Rattle.checking_code.proofs.words.put_colon.Goals as goal

pub returns : goal.returns
returns c = search put_both
