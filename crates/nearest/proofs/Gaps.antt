-- Laws of gaps: along an axis, squared, and as the least distance of points.
use mathlib.Core.Path.{◌≡◌, refl, ap₂, ◌∙◌, subst}
use mathlib.Core.Bool.{Bool, true, false, cond}
use Prim.Native.Nat.{ℕ, zero, suc, ◌+◌, ◌*◌, ◌≤◌}
use native.Mathlib.Nat.{mul-le-mul, suc-mul}
use native.Mathlib.Omega.{arith}
use lib.IntN.{ℤ, pos, nat_abs, ◌-ℤ◌}
use lib.Signed.{lt_z, ◌≤ℤ◌}
use Rattle.geometry.specs.declared.Rect.{Rect}
use Rattle.geometry.specs.Rectangles.{In, max_z, nonempty, meets, between, held, in_range, in_extent}
use Rattle.geometry.proofs.Integers.{zarith, neg-law, one_side, size-law, sub-law}
use mir.Syntax.{w32, w64}
use mir.Val.{Fits, to_z, of_z}
use mir.Facts.{to_z-of_z}
use Rattle.geometry.proofs.Machine.{Fitting}
use Rattle.geometry.proofs.Rectangles.{max-law, sides, meets-point, point-meets, between_is, is-between, held-is}
use Rattle.nearest.specs.Nearest.{axis_gap, squared_gap}
use Rattle.nearest.specs.Theorems.{GapHolds, squared_distance}

module _ (low high from to : ℤ) where
  -- the second extent lies above, below, or meets the first
  pub gap-above : lt_z high from ≡ true → nat_abs (from -ℤ high) ≡ axis_gap low high from to
  unfolding axis_gap
  gap-above e = rw e

  pub gap_below : lt_z high from ≡ false → lt_z to low ≡ true → nat_abs (low -ℤ to) ≡ axis_gap low high from to
  unfolding axis_gap
  gap_below e f = rw (e, f)

  pub gap-none : lt_z high from ≡ false → lt_z to low ≡ false → 0 ≡ axis_gap low high from to
  unfolding axis_gap
  gap-none e f = rw (e, f)

  -- what a gap along an axis is: a point of each extent, no two nearer
  pub record Axis (g : ℕ) : Type 0 where
    pub x : ℤ
    pub u : ℤ
    pub x-low : low ≤ℤ x
    pub x-high : x ≤ℤ high
    pub u-from : from ≤ℤ u
    pub u-to : u ≤ℤ to
    pub apart : nat_abs (u -ℤ x) ≡ g
    pub least : (x u : ℤ) → low ≤ℤ x → x ≤ℤ high → from ≤ℤ u → u ≤ℤ to → g ≤ nat_abs (u -ℤ x)

  pub axis : low ≤ℤ high → from ≤ℤ to → Axis (axis_gap low high from to)
  unfolding axis_gap
  axis h k = go (lt_z high from) refl (lt_z to low) refl
    where
      go : (s : Bool) → lt_z high from ≡ s → (t : Bool) → lt_z to low ≡ t → Axis (cond s (nat_abs (from -ℤ high)) (cond t (nat_abs (low -ℤ to)) 0))
      go true e t f =
          record {
            x = high;
            u = from;
            x-low = h;
            x-high = omega zarith;
            u-from = omega zarith;
            u-to = k;
            apart = refl;
            least = λ x u a b c d. omega (zarith, sub-law from high, sub-law u x, one_side (from -ℤ high), one_side (u -ℤ x), size-law (from -ℤ high), size-law (u -ℤ x));
          }
      go false e true f =
          record {
            x = low;
            u = to;
            x-low = omega zarith;
            x-high = h;
            u-from = k;
            u-to = omega zarith;
            apart = omega (zarith, sub-law low to, sub-law to low, one_side (low -ℤ to), one_side (to -ℤ low), size-law (low -ℤ to), size-law (to -ℤ low));
            least = λ x u a b c d. omega (zarith, sub-law low to, sub-law u x, one_side (low -ℤ to), one_side (u -ℤ x), size-law (low -ℤ to), size-law (u -ℤ x));
          }
      go false e false f =
          let m = max-law low from in
          record {
            x = max_z low from;
            u = max_z low from;
            x-low = omega (zarith, m);
            x-high = omega (zarith, m);
            u-from = omega (zarith, m);
            u-to = omega (zarith, m);
            apart = omega (zarith, sub-law (max_z low from) (max_z low from), one_side (max_z low from -ℤ max_z low from), size-law (max_z low from -ℤ max_z low from));
            least = λ x u a b c d. omega arith;
          }

  -- of extents within −m to m and −n to n
  pub axis-most : (m n : ℕ) → between (pos m) low ≡ true → between (pos m) high ≡ true → between (pos n) from ≡ true → between (pos n) to ≡ true → axis_gap low high from to ≤ m + n
  unfolding axis_gap
  axis-most m n a b c d = go (lt_z high from) refl (lt_z to low) refl
    where
      go : (s : Bool) → lt_z high from ≡ s → (t : Bool) → lt_z to low ≡ t → cond s (nat_abs (from -ℤ high)) (cond t (nat_abs (low -ℤ to)) 0) ≤ m + n
      go true e t f =
          omega (zarith, between_is (pos m) high b, between_is (pos n) from c, neg-law (pos m), neg-law (pos n), sub-law from high, one_side (from -ℤ high), size-law (from -ℤ high))
      go false e true f =
          omega (zarith, between_is (pos m) low a, between_is (pos n) to d, neg-law (pos m), neg-law (pos n), sub-law low to, one_side (low -ℤ to), size-law (low -ℤ to))
      go false e false f = omega arith

-- ---- squared gaps
pub gap-most : (m n : ℕ) (a r : Rect) → held (pos m) a ≡ true → held (pos n) r ≡ true → squared_gap a r ≤ 2 * ((m + n) * (m + n))
unfolding squared_gap
gap-most m n a r e f =
    let h = held-is (pos m) a e in
    let k = held-is (pos n) r f in
    let b = is-between (pos m) in
    let c = is-between (pos n) in
    let x = axis-most a.left a.right r.left r.right m n (b _ h.left) (b _ h.right) (c _ k.left) (c _ k.right) in
    let y = axis-most a.bottom a.top r.bottom r.top m n (b _ h.bottom) (b _ h.top) (c _ k.bottom) (c _ k.top) in
    omega (arith, mul-le-mul x x, mul-le-mul y y)

-- it fits 64 bits, of a box in range and a rectangle in the extent
pub gap-fits : (a r : Rect) (n : ℕ) → in_range a ≡ true → in_extent r ≡ true → n ≡ squared_gap a r → Fits w64 n
gap-fits a r n h k e = record { fits = omega (arith, gap-most 10000000 10050000 a r h k) }

-- as the code reads the sides
pub read-gap : (a r : Rect) → Fitting a → Fitting r → (x y : ℕ)
    → x ≡ axis_gap (to_z w32 (of_z w32 a.left)) (to_z w32 (of_z w32 a.right)) (to_z w32 (of_z w32 r.left)) (to_z w32 (of_z w32 r.right))
    → y ≡ axis_gap (to_z w32 (of_z w32 a.bottom)) (to_z w32 (of_z w32 a.top)) (to_z w32 (of_z w32 r.bottom)) (to_z w32 (of_z w32 r.top))
    → x * x + y * y ≡ squared_gap a r
unfolding squared_gap
read-gap a r f g x y p q =
    let al = f.left in
    let ar = f.right in
    let ab = f.bottom in
    let at = f.top in
    let rl = g.left in
    let rr = g.right in
    let rb = g.bottom in
    let rt = g.top in
    ap₂ (λ (m n : ℕ). m * m + n * n) (simp to_z-of_z at p) (simp to_z-of_z at q)

-- one axis alone
pub across-most : (a r : Rect) → Fitting a → Fitting r → (x : ℕ) → x ≡ axis_gap (to_z w32 (of_z w32 a.left)) (to_z w32 (of_z w32 a.right)) (to_z w32 (of_z w32 r.left)) (to_z w32 (of_z w32 r.right)) → x * x ≤ squared_gap a r
across-most a r f g x p = omega (arith, read-gap a r f g x _ p refl)

square-zero : (n : ℕ) → n * n ≡ 0 → n ≡ 0
square-zero zero e = refl
square-zero (suc n) e = absurd (omega (arith, suc-mul n (suc n)))

-- a point is at distance 0 from itself
self : (z : ℤ) → nat_abs (z -ℤ z) * nat_abs (z -ℤ z) ≡ 0
self z = let e : nat_abs (z -ℤ z) ≡ 0 = omega (zarith, sub-law z z, one_side (z -ℤ z), size-law (z -ℤ z)) in rw e

module _ (a r : Rect) (h : nonempty a ≡ true) (k : nonempty r ≡ true) where
  across : Axis a.left a.right r.left r.right (axis_gap a.left a.right r.left r.right)
  across = axis a.left a.right r.left r.right (sides a h).0 (sides r k).0

  upward : Axis a.bottom a.top r.bottom r.top (axis_gap a.bottom a.top r.bottom r.top)
  upward = axis a.bottom a.top r.bottom r.top (sides a h).1 (sides r k).1

  gap-least : (x y u v : ℤ) → In x y a → In u v r → squared_gap a r ≤ squared_distance x y u v
  unfolding squared_gap
  gap-least x y u v p q =
      let s = across.least x u p.left p.right q.left q.right in
      let t = upward.least y v p.bottom p.top q.bottom q.top in
      omega (arith, mul-le-mul s s, mul-le-mul t t)

  from-x : In across.x upward.x a
  from-x = record { left = across.x-low; right = across.x-high; bottom = upward.x-low; top = upward.x-high }

  to-u : In across.u upward.u r
  to-u = record { left = across.u-from; right = across.u-to; bottom = upward.u-from; top = upward.u-to }

  as-near : squared_distance across.x upward.x across.u upward.u ≡ squared_gap a r
  unfolding squared_gap
  as-near = ap₂ (λ (x y : ℕ). x * x + y * y) across.apart upward.apart

  -- points at distance 0 are one point
  same_point : squared_gap a r ≡ 0 → meets a r ≡ true
  same_point e =
      let d = as-near ∙ e in
      let x = square-zero (nat_abs (across.u -ℤ across.x)) (omega arith) in
      let y = square-zero (nat_abs (upward.u -ℤ upward.x)) (omega arith) in
      let p : across.u ≡ across.x = omega (zarith, sub-law across.u across.x, size-law (across.u -ℤ across.x)) in
      let q : upward.u ≡ upward.x = omega (zarith, sub-law upward.u upward.x, size-law (upward.u -ℤ upward.x)) in
      point-meets a r across.x upward.x from-x (subst (λ (z : ℤ). In z upward.x r) p (subst (λ (z : ℤ). In across.u z r) q to-u))

  at_zero : meets a r ≡ true → squared_gap a r ≡ 0
  at_zero e =
      let m = meets-point a r e in
      omega (zarith, gap-least m.0 m.1 m.0 m.1 m.2.0 m.2.1, self m.0, self m.1)

  pub gap-holds : GapHolds a r
  gap-holds = record {
    least = gap-least;
    attained = (across.x, upward.x, across.u, upward.u, (from-x, to-u, as-near));
    touching = (same_point, at_zero);
  }
