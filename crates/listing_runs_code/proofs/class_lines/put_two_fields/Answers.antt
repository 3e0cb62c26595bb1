-- `put_two_fields` puts two fields and ends the line.
use Rattle.printing.proofs.Puts.{room-first, room-second, put_both}
use Rattle.listing_runs_code.proofs.class_lines.put_two_fields.Goals as goal

pub put_field-a-requires : goal.put_field-a-requires
put_field-a-requires c = search room-first

pub put_last-requires : goal.put_last-requires
put_last-requires c = search room-second

pub returns : goal.returns
returns c = search put_both
