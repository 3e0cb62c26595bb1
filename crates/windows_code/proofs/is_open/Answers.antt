-- `windows_code::is_open`.
use borrow.Author.Rules.{rules}
use Rattle.windows.specs.Windows.{is_open}
use Rattle.windows_code.proofs.is_open.Goals as goal

pub returns : goal.returns
unfolding is_open
returns c = search rules
