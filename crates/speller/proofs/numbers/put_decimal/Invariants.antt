-- `put_decimal` stores a number's digits, the last one first. The loop's invariant: the digits from i to the end are stored, and m is what stands before them.
use Prim.Native.Nat.{◌≤◌}
use Rattle.speller.proofs.Decimals.{Stored}
use Rattle.speller.proofs.numbers.put_decimal.Given as goal

abbrev pub invariant-loop-i : goal.invariant-loop-i
invariant-loop-i l = (l.at ≤ l.i) × Stored l.initial.buf l.n l.end l.buf l.i l.m
