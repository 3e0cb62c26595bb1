-- `put_pair` writes the line of what the row's ground tells; a row of the join always has one.
use Rattle.pens.proofs.Pens.{wrote-same}
use Rattle.printing.proofs.Rows.{not_none}
use Rattle.asking_runs_code.proofs.PairLines.{pair-told, pair-room}
use borrow.Author.Rules.{rules}
use Rattle.asking_runs_code.proofs.lines.put_pair.Goals as goal

pub put_line-requires : goal.put_line-requires
put_line-requires c = search (rules, pair-room)

pub returns-in-None : goal.returns-in-None
returns-in-None c = search not_none

pub returns-in-Some : goal.returns-in-Some
returns-in-Some c = search (rules, wrote-same, pair-told)
