-- `put_found` puts the word and the fields.
use native.Mathlib.Omega.{arith}
use Rattle.printing.specs.Lines.{line_of}
use Rattle.printing.proofs.Puts.{room-second, put_both}
use Rattle.checking_code.proofs.put_found.Goals as goal

pub put_word-a-requires : goal.put_word-a-requires
unfolding line_of
put_word-a-requires c = omega arith

pub put_two-requires : goal.put_two-requires
unfolding line_of
put_two-requires c = search room-second

pub returns : goal.returns
unfolding line_of
returns c = search put_both
