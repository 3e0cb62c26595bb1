-- `put_error` puts the program's name and the words.
use Rattle.printing.proofs.Puts.{put_both}
use Rattle.outcomes.proofs.Outcomes.{name-then}
use borrow.Author.Rules.{rules}
use Rattle.outcomes_code.proofs.put_error.Goals as goal

pub put_line-requires : goal.put_line-requires
put_line-requires c = search (rules, name-then)

pub returns : goal.returns
returns c = search put_both
