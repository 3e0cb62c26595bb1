-- `kind_of` gives the kind of its byte.
use mathlib.Core.Path.{sym}
use mathlib.Core.Logic.{◌⊎◌, inl, inr}
use Prim.Native.Nat.{◌<◌}
use native.Mathlib.Omega.{arith}
use Rattle.decimal.specs.inner.Bytes.{kind_of}
use Rattle.decimal.proofs.Bytes.{kind-digit, kind-other}
use Rattle.lexer.proofs.numbers.kind_of.Goals as goal
use Rattle.lexer.proofs.numbers.kind_of.Goals.{in_default-via-then-b-lt48, in_default-via-else-b-lt48+else-b-lt58}

pub returns-in-48 : goal.returns-in-48
unfolding kind_of
returns-in-48 c = rw c.in-48.is

pub returns-in-49-to-57 : goal.returns-in-49-to-57
returns-in-49-to-57 c = sym (kind-digit c.args.b (omega arith) (omega arith))

pub returns-in-45 : goal.returns-in-45
unfolding kind_of
returns-in-45 c = rw c.in-45.is

pub returns-in-9 : goal.returns-in-9
unfolding kind_of
returns-in-9 c = rw c.in-9.is

pub returns-in-10 : goal.returns-in-10
unfolding kind_of
returns-in-10 c = rw c.in-10.is

pub returns-in_default-b : goal.returns-in_default-b
returns-in_default-b c =
    let d : (c.args.b < 48) ⊎ (57 < c.args.b) = elim c.in_default.branch [ in_default-via-then-b-lt48 w ↦ inl (omega arith) | in_default-via-else-b-lt48+else-b-lt58 w ↦ inr (omega arith) ] in
    sym (kind-other c.args.b d (λ e. omega arith) (λ e. omega arith) (λ e. omega arith))
