use mathlib.Core.Path.{ap, ◌∙◌}
use mathlib.Core.List.{List}
use Prim.Native.Nat.{ℕ}
use native.Mathlib.Omega.{arith}
use lib.Dec.{eqb}
use lib.ListN.{length, take, drop}
use lib.Pointwise.{pointwise}
use Rattle.std.proofs.lemmas.Slice.{between_to_end}
use Rattle.line.proofs.Words.{starts-same}
use Rattle.lexer.proofs.parse.starts.Goals as goal

pub returns : goal.returns
returns c =
    c.starts_with.ensures.value
    ∙ (ap (λ (t : List ℕ). pointwise eqb c.args.word.now (take (length c.args.word.now) t)) (between_to_end c.args.s.now c.args.at _ (omega arith))
    ∙ starts-same c.args.word.now (drop c.args.at c.args.s.now))
