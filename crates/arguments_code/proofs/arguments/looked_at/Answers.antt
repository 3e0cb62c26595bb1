-- `looked_at` looks at all behind the first, at most at seven.
use native.Mathlib.Omega.{arith}
use Rattle.commands.proofs.Counts.{looked-least}
use Rattle.arguments_code.proofs.arguments.looked_at.Goals as goal

pub returns : goal.returns
returns c = (looked-least c.args.count _ (omega arith), omega arith, omega arith)
