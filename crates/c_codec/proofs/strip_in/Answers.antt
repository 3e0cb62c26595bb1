-- `c_codec::strip_in`: by the kind.
use borrow.Author.Rules.{rules}
use Rattle.c_cells.proofs.Cells.{strip-none}
use native.Mathlib.Omega.{arith}
use Rattle.c_codec.proofs.strip_in.Goals as goal

pub returns-in-1 : goal.returns-in-1
returns-in-1 c = rw c.in-1.is

pub returns-in-2 : goal.returns-in-2
returns-in-2 c = rw c.in-2.is

pub returns-in-3 : goal.returns-in-3
returns-in-3 c = rw c.in-3.is

pub returns-in_default : goal.returns-in_default
returns-in_default c = strip-none c.args.kind _ _ (λ e. omega arith) (λ e. omega arith) (λ e. omega arith) (λ e. omega arith)
