-- A float's parts by the bits of its pattern, and floor and ceiling by its parts.
use mir.Val.{bool_byte}
use mathlib.Core.Path.{◌≡◌, refl, sym, ap, ◌∙◌, subst}
use mathlib.Core.Bool.{Bool, true, false, not, cond, ◌&&◌}
use mathlib.Core.Logic.{◌⊎◌, inl, inr}
use Prim.Native.Nat.{ℕ, zero, suc, ◌+◌, ◌-◌, ◌*◌, ◌/◌, ◌%◌, ◌^◌, ◌≤◌, ◌<◌}
use native.Mathlib.Nat.{one-mul, add_comm, lt_of_lt_of_le, mul-pos, mul_assoc, mul_right_comm, mul-le-mul, div-add-mod', mod-lt, eq_of_mul-eq-mul_right, le-div_iff_mul-le, div-eq_of_lt, div-le_of_le-mul, mod-eq_of_lt}
use native.Mathlib.Omega.{arith}
use lib.IntN.{ℤ, pos, neg_ℤ, ◌-ℤ◌, +ℤ_idl}
use lib.Dec.{T, leb, eqb}
use lib.Pow.{pow-add, pow_pos, pow_mono, shl_lt, shl_exact}
use lib.Ieee.{Float, nan, inf, fin, binary64, up, down, le, lt, fits, is_nan, to_bits, of_bits, of_fields, odd, neg}
use lib.Ieee.Fits.{down_pos, and_l, and_r}
use lib.Ieee.Bits.{of_bits-to_bits, cond_no}
use lib.Ieee.Exact.{HasValue, odd_sign}
use lib.Ieee.Nearest.{div_same}
use mir.Syntax.{w32}
use mir.Val.{SFits, to_z, of_z}
use mir.ValLaws.{to_z_pos, to_z-of_z}
use borrow.Author.Tests.{ne_eqb, eq-eqb, eqb-true, eqb-false}
use Rattle.lists.proofs.Tests.{total}
use Rattle.geometry.proofs.Integers.{→sfits, neg-law}
use Rattle.floats.specs.Values.{floor_of, ceil_of, finite, exact}
use Rattle.floats.specs.Parts.{near, farthest, sign_of, whole_of, rest_of, Parts, field_of, digits_of, CutOf}
use Rattle.floats.proofs.Values.{least→, most→}

-- ---- floor and ceiling by the parts
pub floor-parts : (x : Float) → floor_of x ≡ cond (finite x && sign_of x) (neg_ℤ (pos (whole_of x + cond (rest_of x) 1 0))) (pos (whole_of x))
unfolding floor_of
floor-parts nan = refl
floor-parts (inf s) = refl
floor-parts (fin false m e) = refl
floor-parts (fin true m e) = go (eqb (m * up e % down e) 0)
  where
    go : (t : Bool) → neg_ℤ (pos (m * up e / down e + cond t 0 1)) ≡ neg_ℤ (pos (m * up e / down e + cond (not t) 1 0))
    go true = refl
    go false = refl

pub ceil-parts : (x : Float) → ceil_of x ≡ cond (finite x && sign_of x) (neg_ℤ (pos (whole_of x))) (pos (whole_of x + cond (rest_of x) 1 0))
unfolding ceil_of
ceil-parts nan = refl
ceil-parts (inf s) = refl
ceil-parts (fin true m e) = refl
ceil-parts (fin false m e) = go (eqb (m * up e % down e) 0)
  where
    go : (t : Bool) → pos (m * up e / down e + cond t 0 1) ≡ pos (m * up e / down e + cond (not t) 1 0)
    go true = refl
    go false = refl

-- ---- the parts of any fraction that x equals
-- n / d and a / c are one fraction: both leave a rest, or neither does
rest-zero : (n d a c : ℕ) → 0 < d → 0 < c → n * c ≡ a * d → n % d ≡ 0 → a % c ≡ 0
rest-zero n d a c dp cp h r =
    let q : n / d ≡ a / c = div_same n d a c dp cp h in
    let e1 : n / d * d ≡ n = omega (arith, div-add-mod' n d) in
    let e2 : n * c ≡ a / c * c * d = ap (λ (x : ℕ). x * c) (sym e1) ∙ mul_right_comm (n / d) d c ∙ ap (λ (x : ℕ). x * c * d) q in
    let e3 : a ≡ a / c * c = eq_of_mul-eq-mul_right d dp a (a / c * c) (sym h ∙ e2) in
    omega (arith, div-add-mod' a c)

same_test : (p q : ℕ) → (p ≡ 0 → q ≡ 0) → (q ≡ 0 → p ≡ 0) → eqb p 0 ≡ eqb q 0
same_test p q f g = go (eqb p 0) refl
  where
    go : (t : Bool) → eqb p 0 ≡ t → eqb p 0 ≡ eqb q 0
    go true e = e ∙ sym (eq-eqb q 0 (f (eqb-true p 0 e)))
    go false e = e ∙ sym (ne_eqb q 0 (λ (h : q ≡ 0). eqb-false p 0 e (g h)))

pub parts-of-value : (x : Float) (s : Bool) (a c : ℕ) → 0 < c → HasValue x s a c → Parts x s (a / c) (not (eqb (a % c) 0))
parts-of-value nan s a c p v = absurd v
parts-of-value (inf t) s a c p v = absurd v
parts-of-value (fin t m e) s a c p v = record {
  is_finite = tt;
  sign = v.0;
  whole = div_same (m * up e) (down e) a c (down_pos e) p v.1;
  rest = ap not (same_test (m * up e % down e) (a % c) (rest-zero (m * up e) (down e) a c (down_pos e) p v.1) (rest-zero a c (m * up e) (down e) p (down_pos e) (sym v.1)));
}

-- ---- the value that a pattern's fields stand for
-- from one fraction to another of the same size
rescale : (x : Float) (s : Bool) (w l n d : ℕ) → 0 < l → n * l ≡ w * d → HasValue x s w l → HasValue x s n d
rescale nan s w l n d p h v = v
rescale (inf t) s w l n d p h v = v
rescale (fin t m e) s w l n d p h v = (
  v.0,
  eq_of_mul-eq-mul_right l p (m * up e * d) (n * down e)
      (mul_right_comm (m * up e) d l
      ∙ ap (λ (x : ℕ). x * d) v.1
      ∙ mul_right_comm w (down e) d
      ∙ ap (λ (x : ℕ). x * down e) (sym h)
      ∙ mul_right_comm n l (down e)),
)

lt→neqb : (a b : ℕ) → a < b → T (not (eqb a b))
lt→neqb a b h = subst (λ (t : Bool). T (not t)) (sym (ne_eqb a b (λ (e : a ≡ b). clash a b h e))) tt
  where
    clash : (a b : ℕ) → a < b → a ≡ b → ⊥
    clash a b h e = omega arith

pub normal-value : (s : Bool) (k t : ℕ) → T (not (eqb (suc k) 2047)) → HasValue (of_fields binary64 s (suc k) t) s ((4503599627370496 + t) * 2 ^ k) (2 ^ 1074)
unfolding of_fields
normal-value s k t h = subst (λ (x : Float). HasValue x s ((4503599627370496 + t) * 2 ^ k) (2 ^ 1074)) (sym (cond_no (eqb (suc k) 2047) (cond (eqb t 0) (inf s) nan) (odd 53 s (4503599627370496 + t) k 1074) h)) (odd_sign 53 s (4503599627370496 + t) k 1074)

pub tiny-value : (s : Bool) (t : ℕ) → HasValue (of_fields binary64 s 0 t) s (t * 2 ^ 0) (2 ^ 1074)
unfolding of_fields
tiny-value s t = odd_sign 53 s t 0 1074

pub bits-read : (x : Float) → T (fits binary64 x) → x ≡ of_fields binary64 (leb 9223372036854775808 (to_bits binary64 x)) (to_bits binary64 x % 9223372036854775808 / 4503599627370496) (to_bits binary64 x % 4503599627370496)
unfolding of_bits
bits-read x f = sym (of_bits-to_bits binary64 x f)

-- ---- the parts by the fields of a pattern
-- from 1 on: the digits over the weight of 1
pub parts-far : (x : Float) → T (fits binary64 x) → 1023 ≤ field_of (to_bits binary64 x) → field_of (to_bits binary64 x) ≤ 1074
    → Parts x (leb 9223372036854775808 (to_bits binary64 x)) (digits_of (to_bits binary64 x) / 2 ^ (1075 - field_of (to_bits binary64 x))) (not (eqb (digits_of (to_bits binary64 x) % 2 ^ (1075 - field_of (to_bits binary64 x))) 0))
parts-far x f lo hi = go (leb 9223372036854775808 b) (field_of b) (b % 4503599627370496) (bits-read x f) lo hi
  where
    b : ℕ
    b = to_bits binary64 x

    size : (q k : ℕ) → k ≤ 1073 → q * 2 ^ 1074 ≡ q * 2 ^ k * 2 ^ (1075 - suc k)
    size q k h = ap (λ (j : ℕ). q * 2 ^ j) (split k h) ∙ ap (λ (y : ℕ). q * y) (pow-add 2 k (1075 - suc k)) ∙ sym (mul_assoc q (2 ^ k) (2 ^ (1075 - suc k)))
      where
        split : (k : ℕ) → k ≤ 1073 → 1074 ≡ k + (1075 - suc k)
        split k h = omega arith

    go : (s : Bool) (E t : ℕ) → x ≡ of_fields binary64 s E t → 1023 ≤ E → E ≤ 1074 → Parts x s ((t + 4503599627370496) / 2 ^ (1075 - E)) (not (eqb ((t + 4503599627370496) % 2 ^ (1075 - E)) 0))
    go s zero t e lo hi = absurd (omega arith)
    go s (suc k) t e lo hi =
        let v : HasValue x s ((4503599627370496 + t) * 2 ^ k) (2 ^ 1074) = subst (λ (y : Float). HasValue y s ((4503599627370496 + t) * 2 ^ k) (2 ^ 1074)) (sym e) (normal-value s k t (lt→neqb (suc k) 2047 (omega arith))) in
        let w : HasValue x s ((t + 4503599627370496) * 2 ^ k) (2 ^ 1074) = subst (λ (y : ℕ). HasValue x s (y * 2 ^ k) (2 ^ 1074)) (add_comm 4503599627370496 t) v in
        parts-of-value x s (t + 4503599627370496) (2 ^ (1075 - suc k)) (pow_pos (1075 - suc k))
        (rescale x s ((t + 4503599627370496) * 2 ^ k) (2 ^ 1074) (t + 4503599627370496) (2 ^ (1075 - suc k)) (pow_pos 1074) (size (t + 4503599627370496) k (omega arith)) w)

-- below 1
small-parts : (x : Float) (s : Bool) (a c : ℕ) → a < c → HasValue x s a c → Parts x s 0 (not (eqb a 0))
small-parts x s a c h v =
    let p = parts-of-value x s a c (omega arith) v in
    record { is_finite = p.is_finite; sign = p.sign; whole = p.whole ∙ div-eq_of_lt h; rest = p.rest ∙ ap (λ (y : ℕ). not (eqb y 0)) (mod-eq_of_lt h) }

tiny-lt : (t c : ℕ) → t < 4503599627370496 → 4503599627370496 ≤ c → t * 1 < c
tiny-lt t c h k = omega arith

some : (t : ℕ) → 0 < 4503599627370496 + t
some t = omega arith

few : (k : ℕ) → suc k < 1023 → 53 + k ≤ 1074
few k h = omega arith

pub parts-near : (x : Float) → T (fits binary64 x) → field_of (to_bits binary64 x) < 1023
    → Parts x (leb 9223372036854775808 (to_bits binary64 x)) 0 (not (eqb (to_bits binary64 x % 9223372036854775808) 0))
parts-near x f hi = go (leb 9223372036854775808 b) (field_of b) (b % 4503599627370496) (b % 9223372036854775808) (bits-read x f) hi (mod-lt b {m = 4503599627370496} (omega arith)) joined
  where
    b : ℕ
    b = to_bits binary64 x

    joined : b % 9223372036854775808 ≡ field_of b * 4503599627370496 + b % 4503599627370496
    joined = omega arith

    go : (s : Bool) (E t p : ℕ) → x ≡ of_fields binary64 s E t → E < 1023 → t < 4503599627370496 → p ≡ E * 4503599627370496 + t → Parts x s 0 (not (eqb p 0))
    go s zero t p e hi h j =
        let v : HasValue x s (t * 1) (2 ^ 1074) = subst (λ (y : Float). HasValue y s (t * 1) (2 ^ 1074)) (sym e) (tiny-value s t) in
        let w : p ≡ t * 1 = omega arith in
        subst (λ (y : ℕ). Parts x s 0 (not (eqb y 0))) (sym w) (small-parts x s (t * 1) (2 ^ 1074) (tiny-lt t (2 ^ 1074) h (pow_mono {i = 52} {j = 1074} (omega arith))) v)
    go s (suc k) t p e hi h j =
        let v : HasValue x s ((4503599627370496 + t) * 2 ^ k) (2 ^ 1074) = subst (λ (y : Float). HasValue y s ((4503599627370496 + t) * 2 ^ k) (2 ^ 1074)) (sym e) (normal-value s k t (lt→neqb (suc k) 2047 (omega arith))) in
        let q = small-parts x s ((4503599627370496 + t) * 2 ^ k) (2 ^ 1074) (lt_of_lt_of_le (shl_lt 53 k (omega arith)) (pow_mono {i = 53 + k} {j = 1074} (few k hi))) v in
        let e1 : eqb p 0 ≡ false = ne_eqb p 0 (λ (z : p ≡ 0). omega arith) in
        let e2 : eqb ((4503599627370496 + t) * 2 ^ k) 0 ≡ false = ne_eqb ((4503599627370496 + t) * 2 ^ k) 0 (λ (z : (4503599627370496 + t) * 2 ^ k ≡ 0). not-zero z (mul-pos (some t) (pow_pos k))) in
        subst (λ (y : Bool). Parts x s 0 (not y)) (e2 ∙ sym e1) q
      where
        not-zero : {n : ℕ} → n ≡ 0 → 0 < n → ⊥
        not-zero z h = omega arith

-- ---- near 0
abbrev lowest : Float
lowest = exact (neg_ℤ (pos farthest))

abbrev highest : Float
highest = exact (pos farthest)

size_in : (s : Bool) (m : ℕ) (e : ℤ) → T (near (fin s m e)) → m * up e ≤ down e * farthest
size_in true m e t = omega (arith, least→ (neg_ℤ (pos farthest)) (fin true m e) tt (and_l (le lowest (fin true m e)) (le (fin true m e) highest) t))
size_in false m e t = omega (arith, most→ (pos farthest) (fin false m e) tt (and_r (le lowest (fin false m e)) (le (fin false m e) highest) t))

pub near-finite : (x : Float) → T (near x) → T (finite x)
unfolding le
near-finite nan t = absurd t
near-finite (inf true) t = absurd t
near-finite (inf false) t = absurd t
near-finite (fin s m e) t = tt

pub near-not-nan : (x : Float) → T (near x) → T (not (is_nan x))
unfolding le is_nan
near-not-nan nan t = absurd t
near-not-nan (inf s) t = tt
near-not-nan (fin s m e) t = tt

pub near-whole : (x : Float) → T (near x) → whole_of x ≤ farthest
near-whole nan t = omega arith
near-whole (inf s) t = omega arith
near-whole (fin s m e) t = div-le_of_le-mul (down e) (size_in s m e t)

-- so the exponent's field is small
top-not-finite : (s : Bool) (k t : ℕ) → eqb (suc k) 2047 ≡ true → T (finite (of_fields binary64 s (suc k) t)) → ⊥
unfolding of_fields
top-not-finite s k t e h = go (eqb t 0) (subst (λ (z : Bool). T (finite (cond z (cond (eqb t 0) (inf s) nan) (odd 53 s (4503599627370496 + t) k 1074)))) e h)
  where
    go : (z : Bool) → T (finite (cond z (inf s) nan)) → ⊥
    go true h = h
    go false h = h

far-whole : (q k c : ℕ) → 4503599627370496 ≤ q → 0 < c → c ≤ 2 ^ k → 4503599627370496 ≤ q * 2 ^ k / c
far-whole q k c h p g = (le-div_iff_mul-le p).1 (mul-le-mul h g)

too_far : (w v : ℕ) → w ≤ farthest → w ≡ v → 4503599627370496 ≤ v → ⊥
too_far w v h e k = omega arith

pub near-field : (x : Float) → T (fits binary64 x) → T (near x) → field_of (to_bits binary64 x) ≤ 1074
near-field x f r = go (leb 9223372036854775808 b) (field_of b) (b % 4503599627370496) (bits-read x f) (total (field_of b) 1074)
  where
    b : ℕ
    b = to_bits binary64 x

    at_least : (t : ℕ) → 4503599627370496 ≤ 4503599627370496 + t
    at_least t = omega arith

    fall : (k : ℕ) → 1074 < suc k → 1074 ≤ k
    fall k h = omega arith

    go : (s : Bool) (E t : ℕ) → x ≡ of_fields binary64 s E t → (E ≤ 1074) ⊎ (1074 < E) → E ≤ 1074
    go s E t e (inl h) = h
    go s zero t e (inr h) = absurd (omega arith)
    go s (suc k) t e (inr h) = pick (eqb (suc k) 2047) refl
      where
        pick : (z : Bool) → eqb (suc k) 2047 ≡ z → suc k ≤ 1074
        pick true z = absurd (top-not-finite s k t z (subst (λ (y : Float). T (finite y)) e (near-finite x r)))
        pick false z =
            let v : HasValue x s ((4503599627370496 + t) * 2 ^ k) (2 ^ 1074) = subst (λ (y : Float). HasValue y s ((4503599627370496 + t) * 2 ^ k) (2 ^ 1074)) (sym e) (normal-value s k t (subst (λ (y : Bool). T (not y)) (sym z) tt)) in
            absurd (too_far (whole_of x) ((4503599627370496 + t) * 2 ^ k / 2 ^ 1074) (near-whole x r) (parts-of-value x s ((4503599627370496 + t) * 2 ^ k) (2 ^ 1074) (pow_pos 1074) v).whole (far-whole (4503599627370496 + t) k (2 ^ 1074) (at_least t) (pow_pos 1074) (pow_mono {i = 1074} {j = k} (fall k h))))

-- what the pattern alone gives
pub parts-of-cut : (x : Float) (s : Bool) (w : ℕ) (r : Bool) → T (fits binary64 x) → T (near x) → CutOf (to_bits binary64 x) s w r → Parts x s w r
parts-of-cut x s w r f t c = go (total 1023 (field_of (to_bits binary64 x)))
  where
    go : (1023 ≤ field_of (to_bits binary64 x)) ⊎ (field_of (to_bits binary64 x) < 1023) → Parts x s w r
    go (inl h) =
        let p = parts-far x f h (near-field x f t) in
        record { is_finite = p.is_finite; sign = p.sign ∙ sym c.sign; whole = p.whole ∙ sym (c.whole_far h); rest = p.rest ∙ sym (c.rest_far h) }
    go (inr h) =
        let p = parts-near x f h in
        record { is_finite = p.is_finite; sign = p.sign ∙ sym c.sign; whole = p.whole ∙ sym (c.whole_near h); rest = p.rest ∙ sym (c.rest_near h) }

-- ---- for the functions' proofs
-- 1 shifted by 1075 less the field keeps its bit
pub one-exact : (E : ℕ) → 1023 ≤ E → 1 * 2 ^ (1075 - E) % 18446744073709551616 ≡ 2 ^ (1075 - E)
one-exact E h = shl_exact {a = 1} 1 (1075 - E) 64 (omega arith) (omega arith) ∙ one-mul (2 ^ (1075 - E))

pub one-some : (E : ℕ) → 1023 ≤ E → 0 < 1 * 2 ^ (1075 - E) % 18446744073709551616
one-some E h = subst (λ (y : ℕ). 0 < y) (sym (one-exact E h)) (pow_pos (1075 - E))

pub cut-far : (b one : ℕ) (s : Bool) → s ≡ leb 9223372036854775808 b → 1023 ≤ field_of b → one ≡ 2 ^ (1075 - field_of b) → CutOf b s (digits_of b / one) (not (eqb (digits_of b % one) 0))
cut-far b one s e h o = record {
  sign = e;
  whole_near = λ k. absurd (omega arith);
  rest_near = λ k. absurd (omega arith);
  whole_far = λ k. ap (λ (y : ℕ). digits_of b / y) o;
  rest_far = λ k. ap (λ (y : ℕ). not (eqb (digits_of b % y) 0)) o;
}

pub cut-near : (b : ℕ) (s : Bool) → s ≡ leb 9223372036854775808 b → field_of b < 1023 → CutOf b s 0 (not (eqb (b % 9223372036854775808) 0))
cut-near b s e h = record {
  sign = e;
  whole_near = λ k. refl;
  rest_near = λ k. refl;
  whole_far = λ k. absurd (omega arith);
  rest_far = λ k. absurd (omega arith);
}

-- the bound in the code is the bound here
pub le-highest : (x : Float) → le x (of_bits binary64 0x41d0_0000_0000_0000) ≡ le x highest
unfolding le of_bits
le-highest nan = refl
le-highest (inf s) = refl
le-highest (fin s m e) = refl

pub lowest-le : (x : Float) → le (neg (of_bits binary64 0x41d0_0000_0000_0000)) x ≡ le lowest x
unfolding le of_bits neg
lowest-le nan = refl
lowest-le (inf s) = refl
lowest-le (fin s m e) = refl

-- finite: between the infinities
pub finite-by : (x : Float) → lt (of_bits binary64 0xfff0_0000_0000_0000) x ≡ true → lt x (of_bits binary64 0x7ff0_0000_0000_0000) ≡ finite x
unfolding lt of_bits
finite-by nan e = cc
finite-by (inf true) e = cc
finite-by (inf false) e = refl
finite-by (fin s m d) e = refl

pub finite-not : (x : Float) → lt (of_bits binary64 0xfff0_0000_0000_0000) x ≡ false → false ≡ finite x
unfolding lt of_bits
finite-not nan e = refl
finite-not (inf s) e = refl
finite-not (fin s m d) e = cc

-- a flag as a number
pub number-of : (b : Bool) → bool_byte b ≡ cond b 1 0
number-of true = refl
number-of false = refl

-- floor and ceiling by the parts that the code has
pub floor-below : (x : Float) (s : Bool) (w : ℕ) (r : Bool) → Parts x s w r → s ≡ true → floor_of x ≡ neg_ℤ (pos (w + cond r 1 0))
unfolding floor_of
floor-below nan s w r p e = absurd p.is_finite
floor-below (inf t) s w r p e = absurd p.is_finite
floor-below (fin t m d) s w r p e = floor-parts (fin t m d) ∙ go t (whole_of (fin t m d)) (rest_of (fin t m d)) (p.sign ∙ e) p.whole p.rest
  where
    go : (t : Bool) (v : ℕ) (q : Bool) → t ≡ true → v ≡ w → q ≡ r → cond t (neg_ℤ (pos (v + cond q 1 0))) (pos v) ≡ neg_ℤ (pos (w + cond r 1 0))
    go t v q e1 e2 e3 = cc

pub ceil-below : (x : Float) (s : Bool) (w : ℕ) (r : Bool) → Parts x s w r → s ≡ true → ceil_of x ≡ neg_ℤ (pos w)
ceil-below nan s w r p e = absurd p.is_finite
ceil-below (inf t) s w r p e = absurd p.is_finite
ceil-below (fin t m d) s w r p e = ceil-parts (fin t m d) ∙ go t (whole_of (fin t m d)) (rest_of (fin t m d)) (p.sign ∙ e) p.whole
  where
    go : (t : Bool) (v : ℕ) (q : Bool) → t ≡ true → v ≡ w → cond t (neg_ℤ (pos v)) (pos (v + cond q 1 0)) ≡ neg_ℤ (pos w)
    go t v q e1 e2 = cc

pub floor-above : (x : Float) (s : Bool) (w : ℕ) (r : Bool) → Parts x s w r → s ≡ false → floor_of x ≡ pos w
floor-above nan s w r p e = absurd p.is_finite
floor-above (inf t) s w r p e = absurd p.is_finite
floor-above (fin t m d) s w r p e = floor-parts (fin t m d) ∙ go t (whole_of (fin t m d)) (rest_of (fin t m d)) (p.sign ∙ e) p.whole
  where
    go : (t : Bool) (v : ℕ) (q : Bool) → t ≡ false → v ≡ w → cond t (neg_ℤ (pos (v + cond q 1 0))) (pos v) ≡ pos w
    go t v q e1 e2 = cc

pub ceil-above : (x : Float) (s : Bool) (w : ℕ) (r : Bool) → Parts x s w r → s ≡ false → ceil_of x ≡ pos (w + cond r 1 0)
ceil-above nan s w r p e = absurd p.is_finite
ceil-above (inf t) s w r p e = absurd p.is_finite
ceil-above (fin t m d) s w r p e = ceil-parts (fin t m d) ∙ go t (whole_of (fin t m d)) (rest_of (fin t m d)) (p.sign ∙ e) p.whole p.rest
  where
    go : (t : Bool) (v : ℕ) (q : Bool) → t ≡ false → v ≡ w → q ≡ r → cond t (neg_ℤ (pos v)) (pos (v + cond q 1 0)) ≡ pos (w + cond r 1 0)
    go t v q e1 e2 e3 = cc

-- ... a value below 0 goes down where anything was cut off, one from 0 on is cut
pub floor-told : (x : Float) (s : Bool) (w : ℕ) (r : Bool) → Parts x s w r → cond s (neg_ℤ (pos (w + bool_byte (s && r)))) (pos (w + bool_byte (s && r))) ≡ floor_of x
floor-told x s w r p = go s refl
  where
    go : (t : Bool) → s ≡ t → cond t (neg_ℤ (pos (w + bool_byte (t && r)))) (pos (w + bool_byte (t && r))) ≡ floor_of x
    go true e = ap (λ (n : ℕ). neg_ℤ (pos (w + n))) (number-of r) ∙ sym (floor-below x s w r p e)
    go false e = ap pos (omega arith) ∙ sym (floor-above x s w r p e)

-- ... a value from 0 on goes up where anything was cut off, one below 0 is cut
pub ceil-told : (x : Float) (s : Bool) (w : ℕ) (r : Bool) → Parts x s w r → cond s (neg_ℤ (pos (w + bool_byte (not s && r)))) (pos (w + bool_byte (not s && r))) ≡ ceil_of x
ceil-told x s w r p = go s refl
  where
    go : (t : Bool) → s ≡ t → cond t (neg_ℤ (pos (w + bool_byte (not t && r)))) (pos (w + bool_byte (not t && r))) ≡ ceil_of x
    go true e = ap (λ (n : ℕ). neg_ℤ (pos n)) (omega arith) ∙ sym (ceil-below x s w r p e)
    go false e = ap (λ (n : ℕ). pos (w + n)) (number-of r) ∙ sym (ceil-above x s w r p e)

pub parts-bound : (x : Float) (s : Bool) (w : ℕ) (r : Bool) → Parts x s w r → T (near x) → w ≤ farthest
parts-bound x s w r p t = subst (λ (y : ℕ). y ≤ farthest) p.whole (near-whole x t)

-- signed numbers of 32 bits
pub neg-sfits : (n : ℕ) → n ≤ farthest + 1 → SFits w32 (neg_ℤ (pos n))
neg-sfits n h = →sfits w32 (neg_ℤ (pos n)) (omega (arith, neg-law (pos n)))

pub zero-less : (n : ℕ) → n ≤ farthest + 1 → pos 0 -ℤ to_z w32 n ≡ neg_ℤ (pos n)
zero-less n h = ap (λ (z : ℤ). pos 0 -ℤ z) (to_z_pos w32 n (omega arith)) ∙ +ℤ_idl (neg_ℤ (pos n))

pub zero-less-fits : (n : ℕ) → n ≤ farthest + 1 → SFits w32 (pos 0 -ℤ to_z w32 n)
zero-less-fits n h = subst (λ (z : ℤ). SFits w32 z) (sym (zero-less n h)) (neg-sfits n h)

pub zero-less-is : (n : ℕ) → n ≤ farthest + 1 → to_z w32 (of_z w32 (pos 0 -ℤ to_z w32 n)) ≡ neg_ℤ (pos n)
zero-less-is n h = to_z-of_z w32 (pos 0 -ℤ to_z w32 n) (zero-less-fits n h) ∙ zero-less n h

pub plain-is : (n : ℕ) → n ≤ farthest + 1 → to_z w32 n ≡ pos n
plain-is n h = to_z_pos w32 n (omega arith)

pub number-most : (n : ℕ) (b : Bool) → n ≡ bool_byte b → n ≤ 1
number-most n true e = omega (arith, e)
number-most n false e = omega (arith, e)
