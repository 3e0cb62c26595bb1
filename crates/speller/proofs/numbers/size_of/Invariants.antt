-- `size_of` compares with one power after the other. The loop's invariant: n reaches 10^c, and `next` is ten times that.
use mathlib.Core.Path.{◌≡◌}
use Prim.Native.Nat.{◌+◌, ◌^◌, ◌≤◌, max}
use Rattle.speller.proofs.numbers.size_of.Given as goal

abbrev pub invariant-loop-c : goal.invariant-loop-c
invariant-loop-c l = (l.next ≡ 10 ^ (l.c + 1)) × (10 ^ l.c ≤ max l.n 1)
