-- A total says what it was made of, in one way.
use mathlib.Core.Path.{refl}
use native.Mathlib.Omega.{arith}
use Rattle.totals.specs.Totals.{total_of, value_of}
use Rattle.totals.specs.Theorems.{Totals}
use Rattle.totals.proofs.Totals.{value-total, made-total}

pub totals : Totals
unfolding value_of total_of
totals = record {
  says = value-total;
  value = λ t. refl;
  rest = λ n. omega arith;
  only = λ t n h e. made-total t.metres t.rest n h e;
}
