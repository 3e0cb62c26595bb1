-- `c_rounds_codec::ticket_at`.
use borrow.Author.Rules.{rules}
use mathlib.Core.Path.{ap, ◌∙◌}
use Rattle.c_cells.specs.Cells.{ticket_in}
use Rattle.c_rounds_codec.proofs.ticket_at.Goals as goal

pub returns : goal.returns
returns c = c.ticket_in.ensures ∙ ap ticket_in c.twelve_at-twelve.ensures
