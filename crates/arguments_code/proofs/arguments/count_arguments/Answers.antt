-- `count_arguments` counts the bytes 0, each of which ends an argument.
use mathlib.Core.Path.{◌≡◌, ◌∙◌}
use Prim.Native.Nat.{ℕ}
use lib.Dec.{eqb}
use borrow.Author.Rules.{rules}
use Rattle.std.specs.List.{count_by}
use Rattle.commands.proofs.Arguments.{ended_count}
use Rattle.arguments_code.proofs.arguments.count_arguments.Goals as goal

pub returns : goal.returns
returns c =
    let e : c.count.result ≡ count_by (λ (b : ℕ). eqb b 0) c.args.arguments.now = search rules in
    e ∙ ended_count c.args.arguments.now
