-- `more_digits` reads up to seven digits more. The loop's invariant: what may still be read gives what all gives from the start.
use Prim.Native.Nat.{◌-◌}
use Rattle.decimal.proofs.Places.{Going}
use Rattle.lexer.proofs.numbers.more_digits.Given as goal

abbrev pub invariant-loop : goal.invariant-loop
invariant-loop l = Going l.s l.at l.first l.value l.i (7 - l.counter)
