-- `put_two` puts one field behind the other.
use Rattle.printing.proofs.Puts.{room-first, room-second, put_both}
use Rattle.checking_code.proofs.put_two.Goals as goal

pub put_field-a-requires : goal.put_field-a-requires
put_field-a-requires c = search room-first

pub put_last-requires : goal.put_last-requires
put_last-requires c = search room-second

pub returns : goal.returns
returns c = search put_both
