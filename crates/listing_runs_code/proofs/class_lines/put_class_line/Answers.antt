-- `put_class_line` puts the word and the fields.
use native.Mathlib.Omega.{arith}
use Rattle.printing.specs.Lines.{line_of}
use Rattle.printing.proofs.Puts.{room-second, put_both}
use Rattle.listing_runs_code.proofs.class_lines.put_class_line.Goals as goal

pub put_word-a-requires : goal.put_word-a-requires
unfolding line_of
put_word-a-requires c = omega arith

pub put_two_fields-requires : goal.put_two_fields-requires
unfolding line_of
put_two_fields-requires c = search room-second

pub returns : goal.returns
unfolding line_of
returns c = search put_both
