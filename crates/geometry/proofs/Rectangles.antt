-- Laws of rectangles: maxima and minima, common ground, points, ranges, areas.
use mathlib.Core.Path.{◌≡◌, refl, sym, ap, ap₂, ◌∙◌}
use mathlib.Core.Bool.{Bool, true, false, cond, ◌&&◌}
use Prim.Native.Nat.{ℕ, ◌+◌, ◌*◌, ◌≤◌, min, max}
use native.Mathlib.Omega.{arith}
use native.Mathlib.Nat.{mul-le-mul}
use lib.IntN.{ℤ, pos, neg_ℤ, nat_abs, ◌+ℤ◌, ◌-ℤ◌}
use lib.Signed.{le_z, lt_z, ◌≤ℤ◌}
use Rattle.std.specs.Int.{int_max, int_min}
use Rattle.std.proofs.lemmas.Int.{ints}
use Rattle.lists.proofs.Tests.{both, and-true}
use Rattle.geometry.specs.declared.Rect.{Rect}
use Rattle.geometry.specs.declared.Kind.{Kind}
use Rattle.std.specs.Prelude.{Option, None, Some}
use Rattle.geometry.specs.Rectangles.{In, max_z, min_z, common, nonempty, meets, kind_of, meeting, reach, extent, between, held, in_range, in_extent, area_of, most_area, grown_by}
use Rattle.geometry.specs.Theorems.{Ranged, Growing}
use Rattle.geometry.proofs.Integers.{up, dn, zarith, neg-law, one_side, size-law, add-law, sub-law}
use Rattle.geometry.proofs.Machine.{rect-eq}

-- ---- maximum and minimum, as omega reads them
pub max-law : (a b : ℤ) → up (max_z a b) + dn a + dn b ≡ max (up a + dn b) (up b + dn a) + dn (max_z a b)
unfolding max_z
max-law a b = go (le_z a b) refl
  where
    go : (t : Bool) → le_z a b ≡ t → up (cond t b a) + dn a + dn b ≡ max (up a + dn b) (up b + dn a) + dn (cond t b a)
    go true e = omega zarith
    go false e = omega zarith

pub min-law : (a b : ℤ) → up (min_z a b) + dn a + dn b ≡ min (up a + dn b) (up b + dn a) + dn (min_z a b)
unfolding min_z
min-law a b = go (le_z a b) refl
  where
    go : (t : Bool) → le_z a b ≡ t → up (cond t a b) + dn a + dn b ≡ min (up a + dn b) (up b + dn a) + dn (cond t a b)
    go true e = omega zarith
    go false e = omega zarith

-- the library's maximum and minimum, which the code calls
pub max-is : (a b : ℤ) → int_max a b ≡ max_z a b
unfolding max_z
max-is a b = grind (arith, ints)

pub min-is : (a b : ℤ) → int_min a b ≡ min_z a b
unfolding min_z
min-is a b = grind (arith, ints)

pub max_comm : (a b : ℤ) → max_z a b ≡ max_z b a
max_comm a b = omega (zarith, max-law a b, max-law b a)

pub max_assoc : (a b c : ℤ) → max_z (max_z a b) c ≡ max_z a (max_z b c)
max_assoc a b c = omega (zarith, max-law a b, max-law b c, max-law (max_z a b) c, max-law a (max_z b c))

pub max-same : (a : ℤ) → max_z a a ≡ a
max-same a = omega (zarith, max-law a a)

pub min_comm : (a b : ℤ) → min_z a b ≡ min_z b a
min_comm a b = omega (zarith, min-law a b, min-law b a)

pub min_assoc : (a b c : ℤ) → min_z (min_z a b) c ≡ min_z a (min_z b c)
min_assoc a b c = omega (zarith, min-law a b, min-law b c, min-law (min_z a b) c, min-law a (min_z b c))

pub min-same : (a : ℤ) → min_z a a ≡ a
min-same a = omega (zarith, min-law a a)

pub common-comm : (a b : Rect) → common a b ≡ common b a
unfolding common
common-comm a b = cc (max_comm a.left b.left, max_comm a.bottom b.bottom, min_comm a.right b.right, min_comm a.top b.top)

pub common-assoc : (a b c : Rect) → common (common a b) c ≡ common a (common b c)
unfolding common
common-assoc a b c = simp (max_assoc, min_assoc)

pub common-swap : (a b c : Rect) → common (common a b) c ≡ common (common a c) b
common-swap a b c = common-assoc a b c ∙ (ap (common a) (common-comm b c) ∙ sym (common-assoc a c b))

pub common-same : (a : Rect) → common a a ≡ a
unfolding common
common-same a = simp (max-same, min-same)

-- ---- points
pub in_both : (x y : ℤ) (a b : Rect) → In x y (common a b) → In x y a × In x y b
unfolding common
in_both x y a b h = omega (zarith, max-law a.left b.left, max-law a.bottom b.bottom, min-law a.right b.right, min-law a.top b.top)

pub in-common : (x y : ℤ) (a b : Rect) → In x y a → In x y b → In x y (common a b)
unfolding common
in-common x y a b h k = omega (zarith, max-law a.left b.left, max-law a.bottom b.bottom, min-law a.right b.right, min-law a.top b.top)

-- ---- sides and meetings
pub sides : (r : Rect) → nonempty r ≡ true → (r.left ≤ℤ r.right) × (r.bottom ≤ℤ r.top)
unfolding nonempty
sides r e = let h = both (le_z r.left r.right) (le_z r.bottom r.top) e in omega zarith

-- rectangles with the same points, of which there are some, are the same
pub same_points : (a b : Rect) → nonempty a ≡ true → ((x y : ℤ) → In x y a → In x y b) → ((x y : ℤ) → In x y b → In x y a) → a ≡ b
same_points a b e f g =
    let s = sides a e in
    let p = f a.left a.bottom (omega zarith) in
    let q = f a.right a.top (omega zarith) in
    let u = g b.left b.bottom (omega zarith) in
    let v = g b.right b.top (omega zarith) in
    rect-eq (omega zarith) (omega zarith) (omega zarith) (omega zarith)

pub meets-point : (a b : Rect) → meets a b ≡ true → (x : ℤ) × (y : ℤ) × (In x y a × In x y b)
unfolding meets
meets-point a b e =
    let c = common a b in
    let s = sides c e in
    let p : In c.left c.bottom c = omega zarith in
    (c.left, c.bottom, in_both c.left c.bottom a b p)

pub point-meets : (a b : Rect) (x y : ℤ) → In x y a → In x y b → meets a b ≡ true
unfolding meets nonempty
point-meets a b x y h k =
    let c = common a b in
    let p = in-common x y a b h k in
    and-true (le_z c.left c.right) (le_z c.bottom c.top) (omega zarith) (omega zarith)

-- what a meeting tells of two rectangles
module _ (a b : Rect) (m : Option (Rect × Kind)) (made : m ≡ meeting a b) where
  pub meeting-common : (c : Rect) (k : Kind) → m ≡ Some (c, k) → (meets a b ≡ true) × (c ≡ common a b) × (k ≡ kind_of (common a b))
  unfolding meeting
  meeting-common c k e = go (meets a b) (sym e ∙ made)
    where
      go : (t : Bool) → ◌≡◌ {A = Option (Rect × Kind)} (Some (c, k)) (cond t (Some (common a b, kind_of (common a b))) None) → (t ≡ true) × (c ≡ common a b) × (k ≡ kind_of (common a b))
      go true q =
          let p : ◌≡◌ {A = Rect × Kind} (c, k) (common a b, kind_of (common a b)) = cc in
          (refl, ap (λ (x : Rect × Kind). x.0) p, ap (λ (x : Rect × Kind). x.1) p)
      go false q = let z : ◌≡◌ {A = ℕ} 0 1 = cc in absurd (omega arith)

  pub meeting-apart : m ≡ None → meets a b ≡ false
  unfolding meeting
  meeting-apart e = go (meets a b) (sym e ∙ made)
    where
      go : (t : Bool) → ◌≡◌ {A = Option (Rect × Kind)} None (cond t (Some (common a b, kind_of (common a b))) None) → t ≡ false
      go true q = let z : ◌≡◌ {A = ℕ} 0 1 = cc in absurd (omega arith)
      go false q = refl

-- ---- in range
-- z is from −b to b
abbrev Between : ℤ → ℤ → Type 0
Between b z = (neg_ℤ b ≤ℤ z) × (z ≤ℤ b)

-- what the test of a rectangle's range tells
pub record Held (b : ℤ) (r : Rect) : Type 0 where
  pub left : Between b r.left
  pub bottom : Between b r.bottom
  pub right : Between b r.right
  pub top : Between b r.top
  pub across : r.left ≤ℤ r.right
  pub upward : r.bottom ≤ℤ r.top

pub between_is : (b z : ℤ) → between b z ≡ true → Between b z
unfolding between
between_is b z e = let h = both (le_z (neg_ℤ b) z) (le_z z b) e in omega zarith

pub is-between : (b z : ℤ) → Between b z → between b z ≡ true
unfolding between
is-between b z h = and-true (le_z (neg_ℤ b) z) (le_z z b) (omega zarith) (omega zarith)

pub held-is : (b : ℤ) (r : Rect) → held b r ≡ true → Held b r
unfolding held
held-is b r e =
    let h₄ = both (between b r.left && between b r.bottom && between b r.right && between b r.top) (nonempty r) e in
    let h₃ = both (between b r.left && between b r.bottom && between b r.right) (between b r.top) h₄.0 in
    let h₂ = both (between b r.left && between b r.bottom) (between b r.right) h₃.0 in
    let h₁ = both (between b r.left) (between b r.bottom) h₂.0 in
    let s = sides r h₄.1 in
    record { left = between_is b _ h₁.0; bottom = between_is b _ h₁.1; right = between_is b _ h₂.1; top = between_is b _ h₃.1; across = s.0; upward = s.1 }

pub is_held : (b : ℤ) (r : Rect) → Held b r → held b r ≡ true
unfolding held nonempty
is_held b r h =
    let w = is-between b r.left h.left in
    let x = is-between b r.bottom h.bottom in
    let y = is-between b r.right h.right in
    let z = is-between b r.top h.top in
    rw (w, x, y, z) (and-true (le_z r.left r.right) (le_z r.bottom r.top) (omega zarith) (omega zarith))

pub ranged : (r : Rect) → in_range r ≡ true → Ranged r
ranged r e = let h = held-is reach r e in record { left = h.left; bottom = h.bottom; right = h.right; top = h.top; across = h.across; upward = h.upward }

pub in-range : (r : Rect) → Ranged r → in_range r ≡ true
in-range r h = is_held reach r (record { left = h.left; bottom = h.bottom; right = h.right; top = h.top; across = h.across; upward = h.upward })

pub held-nonempty : (b : ℤ) (r : Rect) → held b r ≡ true → nonempty r ≡ true
unfolding held
held-nonempty b r e = (both (between b r.left && between b r.bottom && between b r.right && between b r.top) (nonempty r) e).1

-- the extent holds what the reach does
wide : (z : ℤ) → Between reach z → Between extent z
wide z k = omega zarith

pub range-extent : (r : Rect) → in_range r ≡ true → in_extent r ≡ true
range-extent r e =
    let h = held-is reach r e in
    is_held extent r (record { left = wide _ h.left; bottom = wide _ h.bottom; right = wide _ h.right; top = wide _ h.top; across = h.across; upward = h.upward })

-- a coordinate of a smaller range is in range
old-between : (z : ℤ) → between (pos 1000000) z ≡ true → between reach z ≡ true
old-between z e = let h = between_is (pos 1000000) z e in is-between reach z (omega zarith)

pub old-range : (r : Rect) → between (pos 1000000) r.left ≡ true → between (pos 1000000) r.bottom ≡ true → between (pos 1000000) r.right ≡ true → between (pos 1000000) r.top ≡ true
    → in_range r ≡ held (pos 1000000) r
unfolding held
old-range r w x y z =
    rw (w, x, y, z, old-between r.left w, old-between r.bottom x, old-between r.right y, old-between r.top z) refl

-- what two rectangles in range have in common is in range, if it is anything
between-max : (b x y : ℤ) → Between b x → Between b y → Between b (max_z x y)
between-max b x y p q = omega (zarith, max-law x y)

between-min : (b x y : ℤ) → Between b x → Between b y → Between b (min_z x y)
between-min b x y p q = omega (zarith, min-law x y)

pub common-held : (b : ℤ) (c r : Rect) → held b c ≡ true → held b r ≡ true → meets c r ≡ true → held b (common c r) ≡ true
unfolding common meets
common-held b c r p q m =
    let h = held-is b c p in
    let k = held-is b r q in
    let s = sides (common c r) m in
    is_held b (common c r) (record { left = between-max b _ _ h.left k.left; bottom = between-max b _ _ h.bottom k.bottom; right = between-min b _ _ h.right k.right; top = between-min b _ _ h.top k.top; across = s.0; upward = s.1 })

-- ---- a side: b - a, of two coordinates in range and in order
side-small : (n : ℕ) (a b : ℤ) → Between (pos n) a → Between (pos n) b → a ≤ℤ b → nat_abs (b -ℤ a) ≤ 2 * n
side-small n a b p q order = omega (zarith, neg-law (pos n), sub-law b a, one_side (b -ℤ a), size-law (b -ℤ a))

side-exact : (a b : ℤ) (n : ℕ) → b ≡ a +ℤ pos n → nat_abs (b -ℤ a) ≡ n
side-exact a b n e = omega (zarith, add-law a (pos n), sub-law b a, one_side (b -ℤ a), size-law (b -ℤ a))

pub area-exact : (r : Rect) (w h : ℕ) → r.right ≡ r.left +ℤ pos w → r.top ≡ r.bottom +ℤ pos h → area_of r ≡ w * h
unfolding area_of
area-exact r w h p q = ap₂ ◌*◌ (side-exact r.left r.right w p) (side-exact r.bottom r.top h q)

-- of one whose coordinates are from −n to n
area-held : (n : ℕ) (r : Rect) → held (pos n) r ≡ true → area_of r ≤ 2 * n * (2 * n)
unfolding area_of
area-held n r e =
    let h = held-is (pos n) r e in
    mul-le-mul (side-small n _ _ h.left h.right h.across) (side-small n _ _ h.bottom h.top h.upward)

pub extent-area : (r : Rect) → in_extent r ≡ true → area_of r ≤ most_area
extent-area r e = area-held 10050000 r e

-- ---- margins
-- each side is moved out by the margin
grown-sides : (m : ℕ) (r : Rect) → let g = grown_by m r in (g.left +ℤ pos m ≡ r.left) × (g.bottom +ℤ pos m ≡ r.bottom) × (g.right ≡ r.right +ℤ pos m) × (g.top ≡ r.top +ℤ pos m)
unfolding grown_by
grown-sides m r = (back r.left, back r.bottom, refl, refl)
  where
    back : (z : ℤ) → (z -ℤ pos m) +ℤ pos m ≡ z
    back z = omega (zarith, sub-law z (pos m), add-law (z -ℤ pos m) (pos m))

pub grown-none : (r : Rect) → grown_by 0 r ≡ r
unfolding grown_by
grown-none r = rw (down r.left, down r.bottom, on r.right, on r.top)
  where
    down : (z : ℤ) → z -ℤ pos 0 ≡ z
    down z = omega (zarith, sub-law z (pos 0))

    on : (z : ℤ) → z +ℤ pos 0 ≡ z
    on z = omega (zarith, add-law z (pos 0))

pub grown-wider : (m n : ℕ) (r : Rect) (x y : ℤ) → m ≤ n → In x y (grown_by m r) → In x y (grown_by n r)
unfolding grown_by
grown-wider m n r x y h i =
    omega (zarith, sub-law r.left (pos m), sub-law r.bottom (pos m), add-law r.right (pos m), add-law r.top (pos m), sub-law r.left (pos n), sub-law r.bottom (pos n), add-law r.right (pos n), add-law r.top (pos n))

-- a side moved out of the range by a margin
pub between-out : (n : ℕ) (z : ℤ) (m : ℕ) → Between (pos n) z → m ≤ 50000 → Between (pos (n + 50000)) (z +ℤ pos m)
between-out n z m p h = omega (zarith, add-law z (pos m), neg-law (pos n), neg-law (pos (n + 50000)))

pub between_in : (n : ℕ) (z : ℤ) (m : ℕ) → Between (pos n) z → m ≤ 50000 → Between (pos (n + 50000)) (z -ℤ pos m)
between_in n z m p h = omega (zarith, sub-law z (pos m), neg-law (pos n), neg-law (pos (n + 50000)))

pub grown-held : (n m : ℕ) (r : Rect) → held (pos n) r ≡ true → m ≤ 50000 → held (pos (n + 50000)) (grown_by m r) ≡ true
unfolding grown_by
grown-held n m r e h =
    let k = held-is (pos n) r e in
    is_held (pos (n + 50000)) (grown_by m r) (record { left = between_in n _ m k.left h; bottom = between_in n _ m k.bottom h; right = between-out n _ m k.right h; top = between-out n _ m k.top h; across = apart _ _ k.across; upward = apart _ _ k.upward })
  where
    apart : (a b : ℤ) → a ≤ℤ b → (a -ℤ pos m) ≤ℤ (b +ℤ pos m)
    apart a b l = omega (zarith, sub-law a (pos m), add-law b (pos m))

pub grown-growing : (m : ℕ) (r : Rect) → Growing m r (grown_by m r)
grown-growing m r = let s = grown-sides m r in record { left = s.0; bottom = s.1; right = s.2; top = s.3; extent = grown-held 10000000 m r }
