-- `kind_at` looks at the byte, if there is one.
use mathlib.Core.Path.{sym, ap}
use native.Mathlib.Omega.{arith}
use lib.ListN.{get_or-eq_default}
use Rattle.decimal.specs.inner.Bytes.{kind_of}
use Rattle.lexer.proofs.numbers.kind_at.Goals as goal

pub returns-then-i-s : goal.returns-then-i-s
returns-then-i-s c = c.kind_of.ensures

pub returns : goal.returns
unfolding kind_of
returns c = sym (ap kind_of (get_or-eq_default c.args.s.now 0 {n = c.args.i} (omega arith)))
