-- `c_codec::ticket_after`: by the number of the stop.
use borrow.Author.Rules.{rules}
use mathlib.Core.Path.{◌∙◌}
use Rattle.paging.specs.Answers.{page_told}
use Rattle.c_cells.proofs.Cells.{after-refused, after-due}
use Rattle.c_codec.proofs.ticket_after.Goals as goal

pub returns-then-stop_number-ne0 : goal.returns-then-stop_number-ne0
returns-then-stop_number-ne0 c = after-refused c.args.given.now (page_told c.args.page) _ c.stop_number.ensures c.if-stop_number-ne0.true

pub returns : goal.returns
returns c = c.ticket_cells.ensures ∙ after-due c.args.given.now (page_told c.args.page) _ c.stop_number.ensures c.if-stop_number-ne0.false
