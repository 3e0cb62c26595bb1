-- A number's sign and magnitude, as the code takes them apart.
use mathlib.Core.Path.{◌≡◌, refl, sym, ap, ◌∙◌}
use mathlib.Core.Bool.{true, false}
use mathlib.Core.List.{◌∷◌}
use Prim.Native.Nat.{ℕ, zero, suc, ◌^◌, ◌<◌}
use native.Mathlib.Omega.{arith}
use lib.Dec.{T}
use lib.IntN.{ℤ, pos, negsuc, neg_ℤ, nat_abs, ◌-ℤ◌}
use lib.Signed.{non_neg, lt_z}
use mir.Syntax.{w32, w64}
use mir.Val.{SFits, Fits, to_z, of_z}
use mir.Facts.{to_z-of_z}
use borrow.Author.Tests.{ltb-true}
use Rattle.geometry.proofs.Integers.{zarith, one_side, sub-law, size-law, non_neg-law, →sfits}
use Rattle.decimal.specs.Numerals.{decimal, numeral, most_digits, short}

module _ (z : ℤ) (h : short z ≡ true) where
  few : nat_abs z < 10 ^ most_digits
  few = ltb-true (nat_abs z) (10 ^ most_digits) h

  pub short-fits : SFits w32 z
  short-fits = →sfits w32 z (omega (zarith, few, size-law z, one_side z))

  pub neg-fits : SFits w32 (pos 0 -ℤ z)
  neg-fits = →sfits w32 (pos 0 -ℤ z) (omega (zarith, few, size-law z, one_side z, sub-law (pos 0) z, one_side (pos 0 -ℤ z)))

  pub size_fits : Fits w64 (nat_abs z)
  size_fits = omega (arith, few)

pub neg-size : (z : ℤ) → nat_abs (pos 0 -ℤ z) ≡ nat_abs z
neg-size z = omega (zarith, size-law z, size-law (pos 0 -ℤ z), one_side z, sub-law (pos 0) z, one_side (pos 0 -ℤ z))

pub neg-sign : (z : ℤ) → lt_z z (pos 0) ≡ true → T (non_neg (pos 0 -ℤ z))
neg-sign z t = non_neg-law (pos 0 -ℤ z) (omega (zarith, one_side z, sub-law (pos 0) z, one_side (pos 0 -ℤ z)))

pub pos-sign : (z : ℤ) → lt_z z (pos 0) ≡ false → T (non_neg z)
pos-sign z t = non_neg-law z (omega (zarith, one_side z))

pub neg-numeral : (z : ℤ) → lt_z z (pos 0) ≡ true → numeral z ≡ 45 ∷ decimal (nat_abs z)
unfolding numeral
neg-numeral (pos n) t = absurd (omega zarith)
neg-numeral (negsuc n) t = refl

pub pos-numeral : (z : ℤ) → lt_z z (pos 0) ≡ false → numeral z ≡ decimal (nat_abs z)
unfolding numeral
pos-numeral (pos n) t = refl
pos-numeral (negsuc n) t = absurd (omega zarith)

-- by the code's test of the sign, with n for the magnitude
pub minus_first : (z : ℤ) (n : ℕ) → SFits w32 z → lt_z (to_z w32 (of_z w32 z)) (pos 0) ≡ true → n ≡ nat_abs (to_z w32 (of_z w32 z)) → numeral z ≡ 45 ∷ decimal n
minus_first z n f t e = neg-numeral z (simp to_z-of_z at t) ∙ ap (λ (k : ℕ). 45 ∷ decimal k) (sym (simp to_z-of_z at e))

pub digits_alone : (z : ℤ) (n : ℕ) → SFits w32 z → lt_z (to_z w32 (of_z w32 z)) (pos 0) ≡ false → n ≡ nat_abs (to_z w32 (of_z w32 z)) → numeral z ≡ decimal n
digits_alone z n f t e = pos-numeral z (simp to_z-of_z at t) ∙ ap decimal (sym (simp to_z-of_z at e))

-- ---- and how it puts them together

pub below-zero : (n : ℕ) → pos 0 -ℤ pos n ≡ neg_ℤ (pos n)
below-zero zero = refl
below-zero (suc n) = omega (zarith, sub-law (pos 0) (pos (suc n)), one_side (pos 0 -ℤ pos (suc n)))

pub below-fits : (n : ℕ) → n < 10 ^ most_digits → SFits w32 (pos 0 -ℤ pos n)
below-fits n h = →sfits w32 (pos 0 -ℤ pos n) (omega (zarith, sub-law (pos 0) (pos n), one_side (pos 0 -ℤ pos n)))
