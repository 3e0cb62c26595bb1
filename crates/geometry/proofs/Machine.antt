-- What the machine reads back of signed numbers and rectangles, and the tests as the code makes them.
use mathlib.Core.Path.{◌≡◌, sym, ap, ap₂, ◌∙◌, subst}
use mathlib.Core.Bool.{Bool, true, false, cond}
use Prim.Native.Nat.{ℕ, ◌*◌, ◌≤◌, ◌<◌}
use native.Mathlib.Nat.{mul-le-mul, lt_of_le_of_lt, le-pred_of_lt}
use lib.Dec.{T, lit<}
use lib.IntN.{ℤ, pos, neg_ℤ, nat_abs, ◌-ℤ◌}
use lib.Signed.{le_z, lt_z, non_neg, ◌≤ℤ◌}
use mir.Syntax.{Width, w32, w64}
use mir.Val.{SFits, Fits, to_z, of_z}
use mir.Facts.{to_z-of_z, to_z_pos}
use native.Mathlib.Omega.{arith}
use Rattle.geometry.specs.declared.Rect.{Rect}
use Rattle.geometry.specs.declared.Kind.{Kind}
use Rattle.geometry.specs.declared.Kind.TheVariants.{Ground, Edge, Point}
use Rattle.std.specs.Prelude.{Option, None, Some}
use Rattle.geometry.specs.Rectangles.{common, nonempty, meets, kind_of, meeting, reach, extent, between}
use Rattle.geometry.proofs.Integers.{zarith, sub-law, one_side, size-law, non_neg-law, →sfits, sfits→}

-- ---- what the machine reads back, and a record by its fields
pub rect-eq : {a b : Rect} → a.left ≡ b.left → a.bottom ≡ b.bottom → a.right ≡ b.right → a.top ≡ b.top → a ≡ b
rect-eq p q r s = λ i. record { left = p i; bottom = q i; right = r i; top = s i }

pub read-back₂ : {w : Width} (f : ℤ → ℤ → ℤ) {z x y : ℤ} → SFits w z → SFits w x → SFits w y → z ≡ f (to_z w (of_z w x)) (to_z w (of_z w y)) → to_z w (of_z w z) ≡ f x y
read-back₂ f fz fx fy e = to_z-of_z fz ∙ e ∙ ap₂ f (to_z-of_z fx) (to_z-of_z fy)

-- each coordinate fits
pub record Fitting (r : Rect) : Type 0 where
  pub left : SFits w32 r.left
  pub bottom : SFits w32 r.bottom
  pub right : SFits w32 r.right
  pub top : SFits w32 r.top

-- ---- tests, as the code makes them
pub read-le : {w : Width} {x y : ℤ} {t : Bool} → SFits w x → SFits w y → le_z (to_z w (of_z w x)) (to_z w (of_z w y)) ≡ t → le_z x y ≡ t
read-le f g e = sym (ap₂ le_z (to_z-of_z f) (to_z-of_z g)) ∙ e

pub read-lt : {w : Width} {x y : ℤ} {t : Bool} → SFits w x → SFits w y → lt_z (to_z w (of_z w x)) (to_z w (of_z w y)) ≡ t → lt_z x y ≡ t
read-lt f g e = sym (ap₂ lt_z (to_z-of_z f) (to_z-of_z g)) ∙ e

pub some_then : (r : Rect) → le_z r.left r.right ≡ true → le_z r.bottom r.top ≡ nonempty r
unfolding nonempty
some_then r e = rw e

pub some-else : (r : Rect) → le_z r.left r.right ≡ false → false ≡ nonempty r
unfolding nonempty
some-else r e = rw e

pub kind-is : (r : Rect) (t u : Bool) → lt_z r.left r.right ≡ t → lt_z r.bottom r.top ≡ u → cond t (cond u Ground Edge) (cond u Edge Point) ≡ kind_of r
unfolding kind_of
kind-is r t u e f = rw (e, f)

module _ (a b c : Rect) (t : Bool) (made : c ≡ common a b) (told : t ≡ nonempty c) where
  pub meet-then : (k : Kind) → t ≡ true → k ≡ kind_of c → ◌≡◌ {A = Option (Rect × Kind)} (Some (c, k)) (meeting a b)
  unfolding meeting meets
  meet-then k e f = cc

  pub meet-else : t ≡ false → None ≡ meeting a b
  unfolding meeting meets
  meet-else e = cc

pub read-reach : {z : ℤ} {v : Bool} → SFits w32 z → v ≡ between reach (to_z w32 (of_z w32 z)) → v ≡ between reach z
read-reach f e = e ∙ ap (between reach) (to_z-of_z f)

-- ---- differences of 32-bit numbers, taken in 64 bits
module _ {a b : ℤ} (f : SFits w32 a) (g : SFits w32 b) where
  pub rise-fits : SFits w64 (b -ℤ a)
  rise-fits = →sfits w64 (b -ℤ a) (omega (zarith, sfits→ w32 a f, sfits→ w32 b g, sub-law b a, one_side (b -ℤ a), one_side a, one_side b))

  pub rise-small : nat_abs (b -ℤ a) < 4294967296
  rise-small = omega (zarith, sfits→ w32 a f, sfits→ w32 b g, sub-law b a, one_side (b -ℤ a), one_side a, one_side b, size-law (b -ℤ a))

pub rise-up : {a b : ℤ} → a ≤ℤ b → T (non_neg (b -ℤ a))
rise-up {a} {b} h = non_neg-law (b -ℤ a) (omega (zarith, sub-law b a, one_side (b -ℤ a)))

pub read-span : {a b : ℤ} → SFits w32 a → SFits w32 b → nat_abs (to_z w32 (of_z w32 b) -ℤ to_z w32 (of_z w32 a)) ≡ nat_abs (b -ℤ a)
read-span f g = ap₂ (λ (y x : ℤ). nat_abs (y -ℤ x)) (to_z-of_z g) (to_z-of_z f)

pub span-either : (a b : ℤ) → nat_abs (a -ℤ b) ≡ nat_abs (b -ℤ a)
span-either a b = omega (zarith, sub-law b a, sub-law a b, one_side (b -ℤ a), one_side (a -ℤ b), size-law (b -ℤ a), size-law (a -ℤ b))

pub square-fits : {m n : ℕ} → m < 4294967296 → n < 4294967296 → Fits w64 (m * n)
square-fits {m} {n} p q = record { fits = lt_of_le_of_lt (mul-le-mul (le-pred_of_lt p) (le-pred_of_lt q)) (lit< tt) }

-- a coordinate in the extent fits
pub extent-fits : {z : ℤ} → (neg_ℤ extent ≤ℤ z) × (z ≤ℤ extent) → SFits w32 z
extent-fits {z} h = →sfits w32 z (omega (zarith, one_side z))

-- a margin fits as a signed number
pub margin-fits : {m : ℕ} → m ≤ 50000 → SFits w32 (pos m)
margin-fits {m} h = →sfits w32 (pos m) (omega zarith)

-- what the machine makes of a coordinate and a margin
module _ (f : ℤ → ℤ → ℤ) {z : ℤ} {m : ℕ} (fits : SFits w32 z) (small : m ≤ 50000) (ok : SFits w32 (f z (pos m))) where
  moves : f (to_z w32 (of_z w32 z)) (to_z w32 m) ≡ f z (pos m)
  moves = ap₂ f (to_z-of_z fits) (to_z_pos w32 (omega arith))

  pub moved-fits : SFits w32 (f (to_z w32 (of_z w32 z)) (to_z w32 m))
  moved-fits = subst (SFits w32) (sym moves) ok

  pub moved : to_z w32 (of_z w32 (f (to_z w32 (of_z w32 z)) (to_z w32 m))) ≡ f z (pos m)
  moved = to_z-of_z moved-fits ∙ moves
