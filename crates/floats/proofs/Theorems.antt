-- The promises on exact values hold of every float.
use mathlib.Core.Path.{◌≡◌, refl, subst}
use mathlib.Core.Bool.{Bool}
use mathlib.Core.Logic.{◌↔◌}
use Prim.Native.Nat.{◌*◌}
use lib.Ieee.{Float, nan, inf, fin, up, down, le, of_bits}
use Rattle.floats.specs.Values.{floor_of, ceil_of}
use Rattle.floats.specs.Theorems.{Finite, ExactValues}
use Rattle.floats.proofs.Values.{le→sides, sides→le, exact-mono, exact-back, floor-is, ceil-is}

values-are : (x : Float) → Finite x ↔ ((x ≡ nan → ⊥) × ((s : Bool) → x ≡ inf s → ⊥))
values-are nan = (λ f. absurd f, λ h. h.0 refl)
values-are (inf s) = (λ f. absurd f, λ h. h.1 s refl)
values-are (fin s m e) = (λ f. (λ q. subst Finite q f, λ t q. subst Finite q f), λ h. tt)

pub exact-values : ExactValues
unfolding of_bits le floor_of ceil_of
exact-values = record {
  values = values-are;
  whole = λ n. (refl, refl, refl, refl);
  order = λ s t m n e f. let a = m * up e * down f in let b = n * up f * down e in (le→sides s t a b, sides→le s t a b);
  wholes = λ a b. (exact-back a b, exact-mono a b);
  floor = floor-is;
  ceil = ceil-is;
  negative_zero = (refl, refl);
}
