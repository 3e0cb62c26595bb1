-- A float's sign, whole part and rest, and the fields of its pattern; no public call's contract cites this.
use Rattle.std.specs.Prelude.{◌≡◌, Bool, false, not, ◌&&◌, ℕ, ◌+◌, ◌-◌, ◌*◌, ◌/◌, ◌%◌, ◌^◌, ◌≤◌, ◌<◌, pos, neg_ℤ, T, leb, eqb, Float}
use Rattle.std.specs.Float.{nan, inf, fin}
use Rattle.std.specs.Float.Ieee.{up, down, le}
use Rattle.floats.specs.Values.{finite, exact}

-- how far from 0 a float may lie that is taken down or up to a signed 32-bit number: 2 ^ 30 either way
abbrev pub farthest : ℕ
farthest = 1073741824

abbrev pub near : Float → Bool
near x = le (exact (neg_ℤ (pos farthest))) x && le x (exact (pos farthest))

abbrev pub sign_of : Float → Bool
sign_of nan = false
sign_of (inf s) = s
sign_of (fin s m e) = s

abbrev pub whole_of : Float → ℕ
whole_of nan = 0
whole_of (inf s) = 0
whole_of (fin s m e) = m * up e / down e

abbrev pub rest_of : Float → Bool
rest_of nan = false
rest_of (inf s) = false
rest_of (fin s m e) = not (eqb (m * up e % down e) 0)

-- s, w and r are the sign of x, its size cut to a whole number, and whether anything was cut off
pub record Parts (x : Float) (s : Bool) (w : ℕ) (r : Bool) : Type 0 where
  pub is_finite : T (finite x)
  pub sign : sign_of x ≡ s
  pub whole : whole_of x ≡ w
  pub rest : rest_of x ≡ r

-- ---- the pattern: a bit for the sign, 11 for the exponent, 52 for the digits behind a leading 1
abbrev pub field_of : ℕ → ℕ
field_of b = b % 9223372036854775808 / 4503599627370496

abbrev pub digits_of : ℕ → ℕ
digits_of b = b % 4503599627370496 + 4503599627370496

-- the parts by the pattern: below 1 nothing whole, from 1 on the digits over the weight of 1
pub record CutOf (b : ℕ) (s : Bool) (w : ℕ) (r : Bool) : Type 0 where
  pub sign : s ≡ leb 9223372036854775808 b
  pub whole_near : field_of b < 1023 → w ≡ 0
  pub rest_near : field_of b < 1023 → r ≡ not (eqb (b % 9223372036854775808) 0)
  pub whole_far : 1023 ≤ field_of b → w ≡ digits_of b / 2 ^ (1075 - field_of b)
  pub rest_far : 1023 ≤ field_of b → r ≡ not (eqb (digits_of b % 2 ^ (1075 - field_of b)) 0)
