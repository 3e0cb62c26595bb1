-- `put_line` puts the words and the byte.
use Rattle.printing.proofs.Puts.{put_both}
use Rattle.outcomes.proofs.Outcomes.{word_room, next-room}
use Rattle.outcomes_code.proofs.put_line.Goals as goal

pub put_word-a-requires : goal.put_word-a-requires
put_word-a-requires c = search word_room

pub put_word-requires : goal.put_word-requires
put_word-requires c = search next-room

pub returns : goal.returns
returns c = search put_both
