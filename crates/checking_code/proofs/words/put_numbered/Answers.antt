-- `put_numbered` puts one behind the other.
use Rattle.printing.proofs.Puts.{room-second, put_both}
use Rattle.outcomes.proofs.Outcomes.{word_room}
use Rattle.checking_code.proofs.words.put_numbered.Goals as goal

pub put_decimal-a-requires : goal.put_decimal-a-requires
put_decimal-a-requires c = search word_room

pub put_colon-requires : goal.put_colon-requires
put_colon-requires c = search room-second

pub returns : goal.returns
returns c = search put_both
