-- `rounds_code::serving::part_size`.
use native.Mathlib.Nat.{mul-le-mul, mul-pos}
use native.Mathlib.Omega.{arith}
use Rattle.rounds.proofs.Parts.{parts_within}
use Rattle.rounds_code.proofs.serving.part_size.Goals as goal

pub overflow_mul-result : goal.overflow_mul-result
overflow_mul-result c = record { fits = omega (arith, mul-le-mul c.requires.1 c.requires.3) }

pub nonzero_div-result : goal.nonzero_div-result
nonzero_div-result c = mul-pos c.requires.0 c.requires.2

pub overflow_mul-result-2 : goal.overflow_mul-result-2
overflow_mul-result-2 c = record { fits = omega (arith, parts_within c.args.k c.args.m c.args.cells 1 c.requires.2) }
