-- Floats as exact values. What a 64-bit float holds is said by the toolchain (lib.Ieee): `fin s m e` is m times 2 ^ e, below 0 where s is true, and 2 ^ e is
-- `up e` over `down e`. So each finite float is a whole number over a power of two, and `le` compares two of them without rounding.
use Rattle.std.specs.Prelude.{Bool, true, false, cond, ℕ, suc, ◌+◌, ◌*◌, ◌/◌, ◌%◌, ℤ, pos, negsuc, neg_ℤ, eqb, Float}
use Rattle.std.specs.Float.{nan, inf, fin}
use Rattle.std.specs.Float.Ieee.{up, down}

-- a value: neither an infinity nor nan
abbrev pub finite : Float → Bool
finite nan = false
finite (inf s) = false
finite (fin s m e) = true

-- a whole number as an exact value
abbrev pub exact : ℤ → Float
exact (pos n) = fin false n (pos 0)
exact (negsuc n) = fin true (suc n) (pos 0)

-- a / b taken up
abbrev pub up_div : ℕ → ℕ → ℕ
up_div a b = a / b + cond (eqb (a % b) 0) 0 1

-- 02: "taken down", "exactly": the greatest whole number that is not above a finite x (specs/Theorems.antt, `floor`)
unfoldable pub floor_of : Float → ℤ
floor_of nan = pos 0
floor_of (inf s) = pos 0
floor_of (fin s m e) = cond s (neg_ℤ (pos (up_div (m * up e) (down e)))) (pos (m * up e / down e))

-- 02: "taken up", "exactly": the least whole number that is not below a finite x (specs/Theorems.antt, `ceil`)
unfoldable pub ceil_of : Float → ℤ
ceil_of nan = pos 0
ceil_of (inf s) = pos 0
ceil_of (fin s m e) = cond s (neg_ℤ (pos (m * up e / down e))) (pos (up_div (m * up e) (down e)))
