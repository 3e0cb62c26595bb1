-- Laws of exact values: the order by fractions, floor and ceiling, and whole numbers among the floats.
use mathlib.Core.Path.{◌≡◌, refl, sym, ap, subst}
use mathlib.Core.Bool.{Bool, true, false, not, cond, ◌&&◌, ◌||◌}
use mathlib.Core.Logic.{◌⊎◌, inl, inr}
use Prim.Native.Nat.{ℕ, zero, suc, ◌+◌, ◌*◌, ◌/◌, ◌%◌, ◌≤◌, ◌<◌}
use native.Mathlib.Nat.{suc-mul, add-zero, div-mul-le_self, le-div_iff_mul-le, mul-one, zero-mul, add-mul, mul_right_comm, mul-le-mul_right, le_of_mul-le-mul_right, div-add-mod', mod-lt}
use native.Mathlib.Omega.{arith}
use native.Mathlib.Numerals.{add-one}
use lib.IntN.{ℤ, pos, negsuc, neg_ℤ}
use lib.Signed.{◌≤ℤ◌}
use lib.Dec.{T, ltb, eqb, ltb→lt, eqb→eq, nltb→le}
use lib.Ieee.{Float, nan, inf, fin, up, down, le, below, level}
use lib.Ieee.Fits.{eq→eqb, down_pos, and_i}
use Rattle.lists.proofs.Tests.{total}
use Rattle.geometry.proofs.Integers as Integers
use Rattle.geometry.proofs.Integers.{zarith, neg-law}
use Rattle.floats.specs.Values.{exact, up_div, floor_of, ceil_of}
use Rattle.floats.specs.Theorems.{Finite, AtMost, IsFloor, IsCeil}

pub so : (b : Bool) → b ≡ true → T b
so b e = subst T (sym e) tt

-- ---- the order of signed numbers of one lower number
abbrev plus : Bool → ℕ → ℕ
plus s a = cond s 0 a

abbrev less : Bool → ℕ → ℕ
less s a = cond s a 0

eqb_of : (a b : ℕ) → a ≡ b → T (eqb a b)
eqb_of a b e = eq→eqb e

le-or : (a b : ℕ) (c : Bool) → T (ltb a b || (eqb a b && c)) → a ≤ b
le-or a b c t = go (ltb a b) (ltb→lt a b) (eqb a b) (eqb→eq a b) t
  where
    go : (p : Bool) → (T p → a < b) → (q : Bool) → (T q → a ≡ b) → T (p || (q && c)) → a ≤ b
    go true f q g t = omega (arith, f tt)
    go false f true g t = omega (arith, g tt)
    go false f false g t = absurd t

or-le : (a b : ℕ) → a ≤ b → T (ltb a b || (eqb a b && true))
or-le a b h = go (ltb a b) (nltb→le a b)
  where
    go : (p : Bool) → (T (not p) → b ≤ a) → T (p || (eqb a b && true))
    go true f = tt
    go false f = and_i (eqb a b) true (eqb_of a b (omega (arith, f tt))) tt

both_zero : (a b : ℕ) → T (eqb a b && eqb a 0) → a + b ≤ 0
both_zero a b t = go (eqb a b) (eqb→eq a b) (eqb a 0) (eqb→eq a 0) t
  where
    go : (p : Bool) → (T p → a ≡ b) → (q : Bool) → (T q → a ≡ 0) → T (p && q) → a + b ≤ 0
    go true f true g t = omega (arith, f tt, g tt)
    go true f false g t = absurd t
    go false f q g t = absurd t

pub le→sides : (s t : Bool) (a b : ℕ) → T (below s a t b || level s a t b) → plus s a + less t b ≤ plus t b + less s a
le→sides false false a b t = omega (arith, le-or a b true t)
le→sides false true a b t = omega (arith, both_zero a b t)
le→sides true false a b t = omega arith
le→sides true true a b t = go (ltb b a) (ltb→lt b a) (eqb a b) (eqb→eq a b) t
  where
    go : (p : Bool) → (T p → b < a) → (q : Bool) → (T q → a ≡ b) → T (p || (q && true)) → 0 + b ≤ 0 + a
    go true f q g t = omega (arith, f tt)
    go false f true g t = omega (arith, g tt)
    go false f false g t = absurd t

pub sides→le : (s t : Bool) (a b : ℕ) → plus s a + less t b ≤ plus t b + less s a → T (below s a t b || level s a t b)
sides→le false false a b h = or-le a b (omega arith)
sides→le false true a b h = and_i (eqb a b) (eqb a 0) (eqb_of a b (omega arith)) (eqb_of a 0 (omega arith))
sides→le true false a b h = go (ltb 0 (a + b)) (nltb→le 0 (a + b))
  where
    go : (p : Bool) → (T (not p) → a + b ≤ 0) → T (p || (eqb a b && eqb a 0))
    go true f = tt
    go false f = and_i (eqb a b) (eqb a 0) (eqb_of a b (omega (arith, f tt))) (eqb_of a 0 (omega (arith, f tt)))
sides→le true true a b h = go (ltb b a) (nltb→le b a)
  where
    go : (p : Bool) → (T (not p) → a ≤ b) → T (p || (eqb a b && true))
    go true f = tt
    go false f = and_i (eqb a b) true (eqb_of a b (omega (arith, f tt))) tt

-- ---- the order by fractions
-- ---- a finite float is `more` less `fewer`, one of which is 0, over `under`
abbrev pub more : Float → ℕ
more nan = 0
more (inf s) = 0
more (fin s m e) = cond s 0 (m * up e)

abbrev pub fewer : Float → ℕ
fewer nan = 0
fewer (inf s) = 0
fewer (fin s m e) = cond s (m * up e) 0

abbrev pub under : Float → ℕ
under nan = 1
under (inf s) = 1
under (fin s m e) = down e

pub under-pos : (x : Float) → 0 < under x
under-pos nan = omega arith
under-pos (inf s) = omega arith
under-pos (fin s m e) = down_pos e

plus-out : (s : Bool) (a k : ℕ) → plus s (a * k) ≡ plus s a * k
plus-out true a k = sym (zero-mul k)
plus-out false a k = refl

less-out : (s : Bool) (a k : ℕ) → less s (a * k) ≡ less s a * k
less-out true a k = refl
less-out false a k = sym (zero-mul k)

pub le→frac : (x y : Float) → Finite x → Finite y → AtMost x y → more x * under y + fewer y * under x ≤ more y * under x + fewer x * under y
unfolding le
le→frac nan y p q t = absurd p
le→frac (inf s) y p q t = absurd p
le→frac (fin s m e) nan p q t = absurd q
le→frac (fin s m e) (inf r) p q t = absurd q
le→frac (fin s m e) (fin r n d) p q t =
    omega (arith, le→sides s r (m * up e * down d) (n * up d * down e) t, plus-out s (m * up e) (down d), plus-out r (n * up d) (down e), less-out s (m * up e) (down d), less-out r (n * up d) (down e))

pub frac→le : (x y : Float) → Finite x → Finite y → more x * under y + fewer y * under x ≤ more y * under x + fewer x * under y → AtMost x y
unfolding le
frac→le nan y p q h = absurd p
frac→le (inf s) y p q h = absurd p
frac→le (fin s m e) nan p q h = absurd q
frac→le (fin s m e) (inf r) p q h = absurd q
frac→le (fin s m e) (fin r n d) p q h =
    sides→le s r (m * up e * down d) (n * up d * down e) (omega (arith, plus-out s (m * up e) (down d), plus-out r (n * up d) (down e), less-out s (m * up e) (down d), less-out r (n * up d) (down e)))

scaled : (a b c d k : ℕ) → a + b ≤ c + d → a * k + b * k ≤ c * k + d * k
scaled a b c d k h = omega (arith, mul-le-mul_right k h, add-mul a b k, add-mul c d k)

unscaled : (a b c d k : ℕ) → 0 < k → a * k + b * k ≤ c * k + d * k → a + b ≤ c + d
unscaled a b c d k p h = le_of_mul-le-mul_right {m = a + b} {n = c + d} {k = k} (omega (arith, add-mul a b k, add-mul c d k)) p

frac-trans : (px nx dx py ny dy pz nz dz : ℕ) → 0 < dy
    → px * dy + ny * dx ≤ py * dx + nx * dy → py * dz + nz * dy ≤ pz * dy + ny * dz → px * dz + nz * dx ≤ pz * dx + nx * dz
frac-trans px nx dx py ny dy pz nz dz p f g =
    unscaled (px * dz) (nz * dx) (pz * dx) (nx * dz) dy p
    (omega (
      arith,
      scaled (px * dy) (ny * dx) (py * dx) (nx * dy) dz f,
      scaled (py * dz) (nz * dy) (pz * dy) (ny * dz) dx g,
      mul_right_comm px dy dz,
      mul_right_comm nx dy dz,
      mul_right_comm py dx dz,
      mul_right_comm ny dx dz,
      mul_right_comm nz dy dx,
      mul_right_comm pz dy dx,
    ))

pub le_trans : (x y z : Float) → Finite x → Finite y → Finite z → AtMost x y → AtMost y z → AtMost x z
le_trans x y z p q r f g = frac→le x z p r (frac-trans (more x) (fewer x) (under x) (more y) (fewer y) (under y) (more z) (fewer z) (under z) (under-pos y) (le→frac x y p q f) (le→frac y z q r g))

pub le_total : (x y : Float) → Finite x → Finite y → AtMost x y ⊎ AtMost y x
le_total x y p q = go (total (more x * under y + fewer y * under x) (more y * under x + fewer x * under y))
  where
    go : (more x * under y + fewer y * under x ≤ more y * under x + fewer x * under y) ⊎ (more y * under x + fewer x * under y < more x * under y + fewer y * under x) → AtMost x y ⊎ AtMost y x
    go (inl h) = inl (frac→le x y p q h)
    go (inr h) = inr (frac→le y x q p (omega arith))

pub le_refl : (x : Float) → Finite x → AtMost x x
le_refl x p = frac→le x x p p (omega arith)

-- ---- whole numbers among the floats
pub exact-finite : (z : ℤ) → Finite (exact z)
exact-finite (pos n) = tt
exact-finite (negsuc n) = tt

-- what a whole number is made of
record Whole (z : ℤ) : Type 0 where
  ups : more (exact z) ≡ Integers.up z
  downs : fewer (exact z) ≡ Integers.dn z
  ones : under (exact z) ≡ 1

whole : (z : ℤ) → Whole z
whole (pos n) = record { ups = mul-one n; downs = refl; ones = refl }
whole (negsuc n) = record { ups = refl; downs = mul-one (suc n); ones = refl }

module _ (z : ℤ) (x : Float) where
  abbrev pub Least : Type 0
  Least = Integers.up z * under x + fewer x ≤ more x + Integers.dn z * under x

  abbrev pub Most : Type 0
  Most = more x + Integers.dn z * under x ≤ Integers.up z * under x + fewer x

  -- z ≤ x and x ≤ z by what x is made of
  pub least→ : Finite x → AtMost (exact z) x → Least
  least→ f h = omega (arith, rw ((whole z).ups, (whole z).downs, (whole z).ones) at (le→frac (exact z) x (exact-finite z) f h))

  →least : Finite x → Least → AtMost (exact z) x
  →least f h = frac→le (exact z) x (exact-finite z) f (rw ((whole z).ups, (whole z).downs, (whole z).ones) (omega arith))

  pub most→ : Finite x → AtMost x (exact z) → Most
  most→ f h = omega (arith, rw ((whole z).ups, (whole z).downs, (whole z).ones) at (le→frac x (exact z) f (exact-finite z) h))

  →most : Finite x → Most → AtMost x (exact z)
  →most f h = frac→le x (exact z) f (exact-finite z) (rw ((whole z).ups, (whole z).downs, (whole z).ones) (omega arith))

pub exact-mono : (a b : ℤ) → a ≤ℤ b → AtMost (exact a) (exact b)
exact-mono a b h = →least a (exact b) (exact-finite b) (rw ((whole b).ups, (whole b).downs, (whole b).ones) (omega zarith))

pub exact-back : (a b : ℤ) → AtMost (exact a) (exact b) → a ≤ℤ b
exact-back a b h = omega (zarith, rw ((whole b).ups, (whole b).downs, (whole b).ones) at (least→ a (exact b) (exact-finite b) h))

-- ---- division taken down and up
le-cut : (a d k : ℕ) → 0 < d → k * d ≤ a → k ≤ a / d
le-cut a d k p h = (le-div_iff_mul-le p).1 h

cut-le : (a d : ℕ) → a / d * d ≤ a
cut-le a d = div-mul-le_self a d

up-ge : (a d : ℕ) → 0 < d → a ≤ up_div a d * d
up-ge a d p = go (eqb (a % d) 0) (eqb→eq (a % d) 0)
  where
    go : (t : Bool) → (T t → a % d ≡ 0) → a ≤ (a / d + cond t 0 1) * d
    go true f = omega (arith, f tt, div-add-mod' a d, ap (λ (x : ℕ). x * d) (add-zero (a / d)))
    go false f = omega (arith, div-add-mod' a d, mod-lt a p, ap (λ (x : ℕ). x * d) (add-one (a / d)), suc-mul (a / d) d)

up_least : (a d k : ℕ) → 0 < d → a ≤ k * d → up_div a d ≤ k
up_least a d k p h = go (eqb (a % d) 0) (eqb_of (a % d) 0) (total k (a / d))
  where
    q-le : a / d ≤ k
    q-le = le_of_mul-le-mul_right {m = a / d} {n = k} {k = d} (omega (arith, cut-le a d)) p

    tight : (q r a d k : ℕ) → q * d + r ≡ a → a ≤ k * d → k ≤ q → q ≤ k → r ≡ 0
    tight q r a d k e h f g = let w : k ≡ q = omega arith in omega (arith, ap (λ (x : ℕ). x * d) w)

    go : (t : Bool) → (a % d ≡ 0 → T t) → (k ≤ a / d) ⊎ (a / d < k) → a / d + cond t 0 1 ≤ k
    go true f w = omega (arith, q-le)
    go false f (inl w) = absurd (f (tight (a / d) (a % d) a d k (div-add-mod' a d) h w q-le))
    go false f (inr w) = omega arith

-- ---- floor and ceiling
none : (n d : ℕ) → 0 < d → n ≤ 0 → up_div n d ≡ 0
none n d p h = omega (arith, up_least n d 0 p (omega arith))

pub floor-is : (x : Float) → Finite x → IsFloor x (floor_of x)
unfolding floor_of
floor-is nan t = absurd t
floor-is (inf s) t = absurd t
floor-is (fin false m e) t = record { below = →least (pos (m * up e / down e)) (fin false m e) tt (omega (arith, cut-le (m * up e) (down e))); greatest = λ y h. go y (least→ y (fin false m e) tt h) }
  where
    go : (y : ℤ) → Least y (fin false m e) → y ≤ℤ pos (m * up e / down e)
    go (pos k) h = omega (zarith, le-cut (m * up e) (down e) k (down_pos e) (omega arith))
    go (negsuc k) h = omega zarith
floor-is (fin true m e) t =
    record {
      below = →least (neg_ℤ (pos u)) (fin true m e) tt (rw ((neg-law (pos u)).0, (neg-law (pos u)).1) (omega (arith, up-ge (m * up e) (down e) (down_pos e))));
      greatest = λ y h. go y (least→ y (fin true m e) tt h);
    }
  where
    u : ℕ
    u = up_div (m * up e) (down e)

    go : (y : ℤ) → Least y (fin true m e) → y ≤ℤ neg_ℤ (pos u)
    go (pos zero) h = omega (zarith, neg-law (pos u), none (m * up e) (down e) (down_pos e) (omega arith))
    go (pos (suc k)) h = absurd (omega (arith, suc-mul k (down e), down_pos e))
    go (negsuc k) h = omega (zarith, neg-law (pos u), up_least (m * up e) (down e) (suc k) (down_pos e) (omega arith))

pub ceil-is : (x : Float) → Finite x → IsCeil x (ceil_of x)
unfolding ceil_of
ceil-is nan t = absurd t
ceil-is (inf s) t = absurd t
ceil-is (fin false m e) t =
    record {
      above = →most (pos (up_div (m * up e) (down e))) (fin false m e) tt (omega (arith, up-ge (m * up e) (down e) (down_pos e)));
      least = λ y h. go y (most→ y (fin false m e) tt h);
    }
  where
    go : (y : ℤ) → Most y (fin false m e) → pos (up_div (m * up e) (down e)) ≤ℤ y
    go (pos k) h = omega (zarith, up_least (m * up e) (down e) k (down_pos e) (omega arith))
    go (negsuc k) h = absurd (omega (arith, suc-mul k (down e), down_pos e))
ceil-is (fin true m e) t =
    record {
      above = →most (neg_ℤ (pos q)) (fin true m e) tt (rw ((neg-law (pos q)).0, (neg-law (pos q)).1) (omega (arith, cut-le (m * up e) (down e))));
      least = λ y h. go y (most→ y (fin true m e) tt h);
    }
  where
    q : ℕ
    q = m * up e / down e

    go : (y : ℤ) → Most y (fin true m e) → neg_ℤ (pos q) ≤ℤ y
    go (pos k) h = omega (zarith, neg-law (pos q))
    go (negsuc k) h = omega (zarith, neg-law (pos q), le-cut (m * up e) (down e) (suc k) (down_pos e) (omega arith))

-- z ≤ x exactly where z ≤ floor x, and x ≤ z exactly where ceil x ≤ z (the other halves are `greatest` and `least`)
pub floor-from : (x : Float) (z : ℤ) → Finite x → z ≤ℤ floor_of x → AtMost (exact z) x
floor-from x z f h = le_trans (exact z) (exact (floor_of x)) x (exact-finite z) (exact-finite (floor_of x)) f (exact-mono z (floor_of x) h) (floor-is x f).below

pub ceil-from : (x : Float) (z : ℤ) → Finite x → ceil_of x ≤ℤ z → AtMost x (exact z)
ceil-from x z f h = le_trans x (exact (ceil_of x)) (exact z) f (exact-finite (ceil_of x)) (exact-finite z) (ceil-is x f).above (exact-mono (ceil_of x) z h)
