-- `windows_code::is_window`.
use mathlib.Core.Path.{◌∙◌}
use borrow.Author.Tests.{le-ltb}
use Rattle.windows.proofs.Windows.{window-closed, window-open}
use Rattle.windows_code.proofs.is_window.Goals as goal

pub returns-then-w : goal.returns-then-w
returns-then-w c = window-open _ c.if-w.true

pub returns-else-w : goal.returns-else-w
returns-else-w c = le-ltb _ _ c.if-w.false ∙ window-closed _ c.if-w.false
