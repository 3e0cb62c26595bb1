-- Laws of numbers with a sign in 64 bits, as the code takes them apart.
use mathlib.Core.Path.{◌≡◌, ap, ap₂, ◌∙◌}
use mathlib.Core.List.{List, ◌∷◌}
use mathlib.Core.Bool.{true}
use Prim.Native.Nat.{◌+◌, ◌<◌}
use lib.Dec.{T}
use lib.IntN.{ℤ, pos, neg_ℤ, nat_abs, ◌+ℤ◌, ◌-ℤ◌}
use lib.Signed.{non_neg, lt_z}
use mir.Syntax.{w32, w64}
use mir.Val.{SFits, to_z, of_z}
use mir.Facts.{to_z-of_z}
use Rattle.geometry.proofs.Integers.{zarith, one_side, add-law, sub-law, neg-law, size-law, non_neg-law, →sfits, sfits→}

-- ---- a coordinate with the other sign
pub neg_is : (z : ℤ) → pos 0 -ℤ z ≡ neg_ℤ z
neg_is z = omega (zarith, one_side z, sub-law (pos 0) z, neg-law z, one_side (pos 0 -ℤ z), one_side (neg_ℤ z))

pub neg-wide : (z : ℤ) → SFits w32 z → SFits w64 (pos 0 -ℤ z)
neg-wide z f = →sfits w64 (pos 0 -ℤ z) (omega (zarith, sfits→ w32 z f, one_side z, sub-law (pos 0) z, one_side (pos 0 -ℤ z)))

-- ---- the size of a number below 0, which is one more than that of its other sign where 1 is added first
module _ (z : ℤ) (f : SFits w64 z) (t : lt_z z (pos 0) ≡ true) where
  pub one_more : SFits w64 (z +ℤ pos 1)
  one_more = →sfits w64 (z +ℤ pos 1) (omega (zarith, sfits→ w64 z f, one_side z, add-law z (pos 1), one_side (z +ℤ pos 1)))

  pub turned : SFits w64 (pos 0 -ℤ (z +ℤ pos 1))
  turned =
      →sfits w64 (pos 0 -ℤ (z +ℤ pos 1))
      (omega (zarith, sfits→ w64 z f, one_side z, add-law z (pos 1), one_side (z +ℤ pos 1), sub-law (pos 0) (z +ℤ pos 1), one_side (pos 0 -ℤ (z +ℤ pos 1))))

  pub turned_up : T (non_neg (pos 0 -ℤ (z +ℤ pos 1)))
  turned_up =
      non_neg-law (pos 0 -ℤ (z +ℤ pos 1))
      (omega (zarith, one_side z, add-law z (pos 1), one_side (z +ℤ pos 1), sub-law (pos 0) (z +ℤ pos 1), one_side (pos 0 -ℤ (z +ℤ pos 1))))

  pub turned-size : nat_abs (pos 0 -ℤ (z +ℤ pos 1)) + 1 ≡ nat_abs z
  turned-size =
      omega (
        zarith,
        one_side z,
        add-law z (pos 1),
        one_side (z +ℤ pos 1),
        sub-law (pos 0) (z +ℤ pos 1),
        one_side (pos 0 -ℤ (z +ℤ pos 1)),
        size-law z,
        size-law (pos 0 -ℤ (z +ℤ pos 1)),
      )

  pub turned-small : nat_abs (pos 0 -ℤ (z +ℤ pos 1)) + 1 < 18446744073709551616
  turned-small = omega (zarith, turned-size, sfits→ w64 z f, one_side z, size-law z)

-- ---- numbers as they are read back
module _ {z : ℤ} (f : SFits w64 z) where
  pub number_is : {y : ℤ} → z ≡ y → to_z w64 (of_z w64 z) ≡ y
  number_is e = to_z-of_z f ∙ e

  pub coordinate-is : {x : ℤ} → SFits w32 x → z ≡ to_z w32 (of_z w32 x) → to_z w64 (of_z w64 z) ≡ x
  coordinate-is g e = to_z-of_z f ∙ (e ∙ to_z-of_z g)

  pub minus_is : {x : ℤ} → SFits w32 x → z ≡ neg_ℤ (to_z w32 (of_z w32 x)) → to_z w64 (of_z w64 z) ≡ neg_ℤ x
  minus_is g e = to_z-of_z f ∙ (e ∙ ap neg_ℤ (to_z-of_z g))

-- a list, number by number
infixr 20 ◌then◌
pub ◌then◌ : {a b : ℤ} {l m : List ℤ} → a ≡ b → l ≡ m → a ∷ l ≡ b ∷ m
e then f = ap₂ ◌∷◌ e f
