-- `put_number` writes a minus where the number is below 0, and the digits of its magnitude.
use mathlib.Core.Path.{◌≡◌, sym, ap, ◌∙◌}
use mathlib.Core.Bool.{true, false}
use mathlib.Core.List.{[], ◌∷◌}
use Prim.Native.Nat.{ℕ}
use lib.IntN.{ℤ, pos, nat_abs}
use lib.Signed.{lt_z}
use mir.Syntax.{w64}
use mir.Val.{SFits, to_z, of_z}
use mir.Facts.{to_z-of_z}
use Rattle.decimal.specs.Numerals.{decimal, numeral}
use Rattle.decimal.proofs.Signs.{neg-numeral, pos-numeral}
use Rattle.pens.proofs.Pens.{room-first, room-same, room-behind, wrote-same, wrote-both}
use Rattle.picture_code.proofs.fill.put_number.Goals as goal

-- its bytes, as the code reads it
minus : (z : ℤ) (n : ℕ) → SFits w64 z → lt_z (to_z w64 (of_z w64 z)) (pos 0) ≡ true → n ≡ nat_abs (to_z w64 (of_z w64 z)) → numeral z ≡ 45 ∷ decimal n
minus z n f t e = neg-numeral z (simp to_z-of_z at t) ∙ ap (λ (i : ℕ). 45 ∷ decimal i) (sym (simp to_z-of_z at e))

plain : (z : ℤ) (n : ℕ) → SFits w64 z → lt_z (to_z w64 (of_z w64 z)) (pos 0) ≡ false → n ≡ nat_abs (to_z w64 (of_z w64 z)) → numeral z ≡ decimal n
plain z n f t e = pos-numeral z (simp to_z-of_z at t) ∙ ap decimal (sym (simp to_z-of_z at e))

pub put_byte-requires : goal.put_byte-requires
put_byte-requires c = room-first _ (45 ∷ []) (decimal c.size_of-n.result) (room-same _ _ _ (minus _ _ c.ranges.z c.if-z-lt0.true c.size_of-n.ensures) c.requires)

pub put_natural-requires : goal.put_natural-requires
put_natural-requires c = room-behind _ _ (45 ∷ []) _ c.put_byte.ensures (room-same _ _ _ (minus _ _ c.ranges.z c.if-z-lt0.true c.size_of-n.ensures) c.requires)

pub returns-then-z-lt0 : goal.returns-then-z-lt0
returns-then-z-lt0 c = wrote-same _ _ _ (minus _ _ c.ranges.z c.if-z-lt0.true c.size_of-n.ensures) _ (wrote-both _ _ (45 ∷ []) _ c.put_byte.ensures _ c.put_natural.ensures)

pub put_natural-requires-2 : goal.put_natural-requires-2
put_natural-requires-2 c = room-same _ _ _ (plain _ _ c.ranges.z c.if-z-lt0.false c.size_of-n.ensures) c.requires

pub returns : goal.returns
returns c = wrote-same _ _ _ (plain _ _ c.ranges.z c.if-z-lt0.false c.size_of-n.ensures) _ c.put_natural-2.ensures
