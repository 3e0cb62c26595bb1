-- Numbers spelled in base ten (01, "The plan text").
use Rattle.std.specs.Prelude.{List, [], ◌∷◌, Bool, cond, ℕ, zero, suc, ◌+◌, ◌/◌, ◌%◌, ◌^◌, leb, ltb, ℤ, pos, negsuc, nat_abs}

-- the last c digits of n as bytes, the highest first
abbrev pub digits : ℕ → ℕ → List ℕ
digits zero n = []
digits (suc c) n = (48 + n / 10 ^ c % 10) ∷ digits c n

-- how many digits n has, if it has at most c + 1; 0 has one
unfoldable pub size : ℕ → ℕ → ℕ
size zero n = 1
size (suc c) n = cond (leb (10 ^ suc c) n) (suc (suc c)) (size c n)

-- a natural number below 10^20 without leading zeros, which is any of 64 bits
unfoldable pub decimal : ℕ → List ℕ
decimal n = digits (size 19 n) n

-- a whole number: a minus where it is below 0, and its magnitude
unfoldable pub numeral : ℤ → List ℕ
numeral (pos n) = decimal n
numeral (negsuc n) = 45 ∷ decimal (suc n)

-- 02, Q-13: "a number in a text may have eight digits", a first one and up to seven more
abbrev pub most_digits : ℕ
most_digits = 8

-- a number of no more digits than a text may have
abbrev pub short : ℤ → Bool
short z = ltb (nat_abs z) (10 ^ most_digits)
