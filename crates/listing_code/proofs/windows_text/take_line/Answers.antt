-- `take_line` goes by the word that the line starts with.
use mathlib.Core.Path.{sym, ◌∙◌}
use Rattle.listing.proofs.WindowLines.{other_word, window-word}
use Rattle.listing_code.proofs.windows_text.take_line.Goals as goal

pub returns-then-starts : goal.returns-then-starts
returns-then-starts c = window-word c.args.t.now c.args.at (sym c.starts.ensures ∙ c.if-starts.true) c.take_fields.result c.take_fields.ensures

pub returns : goal.returns
returns c = other_word c.args.t.now c.args.at (sym c.starts.ensures ∙ c.if-starts.false)
