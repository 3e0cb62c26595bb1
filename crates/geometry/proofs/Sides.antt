-- Laws of kinds: those of the sides, and what the area tells of them.
use mathlib.Core.Path.{◌≡◌, refl}
use mathlib.Core.Bool.{Bool, true, false, cond}
use mathlib.Core.Logic.{◌↔◌}
use Prim.Native.Nat.{ℕ, zero, suc, ◌*◌}
use native.Mathlib.Nat.{zero-mul, mul-zero, mul-pos}
use native.Mathlib.Omega.{arith}
use lib.IntN.{ℤ, pos, nat_abs, ◌+ℤ◌, ◌-ℤ◌}
use lib.Signed.{lt_z, ◌≤ℤ◌}
use Rattle.lists.proofs.Tests.{never_true}
use Rattle.geometry.specs.declared.Rect.{Rect}
use Rattle.geometry.specs.declared.Kind.{Kind}
use Rattle.geometry.specs.declared.Kind.TheVariants.{Ground, Edge, Point}
use Rattle.std.specs.Prelude.{None, Some}
use Rattle.geometry.specs.Rectangles.{In, common, nonempty, meets, kind_of, meeting, area_of}
use Rattle.geometry.specs.Theorems.{kind_by}
use Rattle.geometry.proofs.Integers.{zarith, one_side, size-law, add-law, sub-law}
use Rattle.geometry.proofs.Rectangles.{sides, point-meets, meets-point, meeting-common}

-- ---- ground is no other
ground-edge : {k : Kind} → k ≡ Ground → k ≡ Edge → ⊥
ground-edge e f = let z : ◌≡◌ {A = ℕ} 0 1 = cc in omega arith

ground-point : {k : Kind} → k ≡ Ground → k ≡ Point → ⊥
ground-point e f = let z : ◌≡◌ {A = ℕ} 0 1 = cc in omega arith

-- ---- sides
abbrev some : ℕ → Bool
some zero = false
some (suc n) = true

above : (a b : ℤ) (n : ℕ) → b ≡ a +ℤ pos n → lt_z a b ≡ some n
above a b zero e = never_true (lt_z a b) (λ t. omega (zarith, add-law a (pos 0)))
above a b (suc n) e = omega (zarith, add-law a (pos (suc n)))

-- the kind of sides of these lengths
pub kind-sides : (r : Rect) (w h : ℕ) → r.right ≡ r.left +ℤ pos w → r.top ≡ r.bottom +ℤ pos h → kind_of r ≡ kind_by w h
unfolding kind_of
kind-sides r w h p q = rw (above r.left r.right w p, above r.bottom r.top h q) (go w h)
  where
    go : (w h : ℕ) → cond (some w) (cond (some h) Ground Edge) (cond (some h) Edge Point) ≡ kind_by w h
    go zero zero = refl
    go zero (suc h) = refl
    go (suc w) zero = refl
    go (suc w) (suc h) = refl

-- ---- area
-- a side is as long as its ends lie apart
side-of : (a b : ℤ) → a ≤ℤ b → b ≡ a +ℤ pos (nat_abs (b -ℤ a))
side-of a b h = omega (zarith, sub-law b a, size-law (b -ℤ a), one_side (b -ℤ a), add-law a (pos (nat_abs (b -ℤ a))))

none : {k : Kind} (w h : ℕ) → k ≡ kind_by w h → (w * h ≡ 0) ↔ (k ≡ Ground → ⊥)
none zero zero e = (λ _ g. ground-point g e, λ _. zero-mul 0)
none zero (suc h) e = (λ _ g. ground-edge g e, λ _. zero-mul (suc h))
none (suc w) zero e = (λ _ g. ground-edge g e, λ _. mul-zero (suc w))
none (suc w) (suc h) e = (λ z _. omega (arith, mul-pos {m = suc w} {n = suc h} (omega arith) (omega arith)), λ n. absurd (n e))

pub kind-area : (r : Rect) → nonempty r ≡ true → (area_of r ≡ 0) ↔ (kind_of r ≡ Ground → ⊥)
unfolding area_of
kind-area r e =
    let s = sides r e in
    none _ _ (kind-sides r _ _ (side-of r.left r.right s.0) (side-of r.bottom r.top s.1))

-- ---- what is handed back
pub meets-handed : (a b : Rect) → (meets a b ≡ true) ↔ (meeting a b ≡ Some (common a b, kind_of (common a b)))
unfolding meeting
meets-handed a b = (λ e. rw e, λ e. (meeting-common a b (meeting a b) refl _ _ e).0)

pub handed : (a b : Rect) (x y : ℤ) → In x y a → In x y b → meeting a b ≡ Some (common a b, kind_of (common a b))
handed a b x y h k = (meets-handed a b).0 (point-meets a b x y h k)

pub not-handed : (a b : Rect) → ((x y : ℤ) → In x y a → In x y b → ⊥) → meeting a b ≡ None
unfolding meeting
not-handed a b n = rw (never_true (meets a b) (λ e. let p = meets-point a b e in n p.0 p.1 p.2.0 p.2.1))
