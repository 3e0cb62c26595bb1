-- `put_joined` writes the line of what the row's ground tells; a row of the join always has one.
use borrow.Author.Rules.{rules}
use Rattle.pens.proofs.Pens.{wrote-same}
use Rattle.printing.proofs.Rows.{layer-small, not_none, row_told, row_room}
use Rattle.printing_code.proofs.lines.put_joined.Goals as goal

pub overflow_add-layer : goal.overflow_add-layer
overflow_add-layer c = search (rules, layer-small)

pub put_row-requires : goal.put_row-requires
put_row-requires c = search row_room

pub returns-in-None : goal.returns-in-None
returns-in-None c = search not_none

pub returns-in-Some : goal.returns-in-Some
returns-in-Some c = search (wrote-same, row_told)
