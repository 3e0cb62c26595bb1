-- `windows_code::window_at`.
use borrow.Author.Rules.{rules}
use Rattle.windows.specs.Windows.{window_at}
use Rattle.windows_code.proofs.window_at.Goals as goal

pub returns : goal.returns
unfolding window_at
returns c = search rules
