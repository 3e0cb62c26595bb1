-- Laws of the lengths of lines.
use mathlib.Core.Path.{◌≡◌, ap, ◌∙◌}
use mathlib.Core.List.{List, []}
use Prim.Native.Nat.{ℕ, ◌+◌, ◌≤◌}
use native.Mathlib.Omega.{arith}
use lib.IntN.{pos}
use lib.ListN.{length, length-append}
use Rattle.geometry.specs.declared.Rect.{Rect}
use Rattle.decimal.specs.Numerals.{size, numeral}
use Rattle.decimal.proofs.Numerals.{length-decimal, size-most, numeral-few}
use Rattle.line.specs.declared.Line.{Line}
use Rattle.line.specs.declared.Line.TheVariants.{Plan, Layer, Rectangle}
use Rattle.line.specs.Lines.{spell_to}
use Rattle.line.proofs.Lines.{spell-front}

pub rect-length : (r : Rect) → length (spell_to (Rectangle r) []) ≡ 9 + length (numeral r.left) + length (numeral r.bottom) + length (numeral r.right) + length (numeral r.top)
rect-length r = simp length-append (omega arith)

pub plan-length : (n : ℕ) → length (spell_to (Plan (pos n)) []) ≡ 6 + size 19 n
unfolding numeral
plan-length n = simp length-append (omega (arith, length-decimal n))

pub layer-length : (n m : ℕ) → length (spell_to (Layer (pos n) (pos m)) []) ≡ 8 + size 19 n + size 19 m
unfolding numeral
layer-length n m = simp length-append (omega (arith, length-decimal n, length-decimal m))

pub spell-length : (l : Line) (r : List ℕ) → length (spell_to l r) ≡ length (spell_to l []) + length r
spell-length l r = ap length (spell-front l r) ∙ length-append (spell_to l []) r

-- ---- lengths are small
pub plan-most : (n : ℕ) → length (spell_to (Plan (pos n)) []) ≤ 26
plan-most n = omega (arith, plan-length n, size-most 19 n)

pub layer-most : (n m : ℕ) → length (spell_to (Layer (pos n) (pos m)) []) ≤ 48
layer-most n m = omega (arith, layer-length n m, size-most 19 n, size-most 19 m)

pub rect-most : (r : Rect) → length (spell_to (Rectangle r) []) ≤ 93
rect-most r = omega (arith, rect-length r, numeral-few r.left, numeral-few r.bottom, numeral-few r.right, numeral-few r.top)
