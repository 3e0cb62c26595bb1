-- Laws of floats by their bytes, eight each, the little end first.
use mathlib.Core.Path.{◌≡◌, refl, sym, ap, ◌∙◌}
use mathlib.Core.List.{List, ◌∷◌}
use mathlib.Core.Bool.{true, not}
use Prim.Native.Nat.{ℕ, suc, ◌+◌, ◌-◌, ◌*◌, ◌/◌, ◌%◌, ◌^◌, ◌≤◌, ◌<◌}
use native.Mathlib.Nat.{zero-lt-suc, pow-le-pow_right}
use native.Mathlib.Omega.{arith}
use lib.Dec.{T}
use lib.ListN.{length, get_or, set, take, drop, length-take}
use lib.Seq.{drop-cons, take_at}
use lib.Ieee.{Float, nan, inf, fin, binary64, of_bits, nan_bits, is_nan}
use lib.Ieee.Bits.{nan_bits_is, nan_bits_above}
use borrow.Author.Tests.{le-leb, lt-leb, lt-ltb, le-ltb}
use Rattle.lists.specs.Lists.{upto}
use Rattle.lists.proofs.Tests.{clash}
use Rattle.lists.specs.inner.Stores.{Put}
use Rattle.lists.proofs.Stores.{Left, left-all, left-byte, left-none, put-start, put-length}
use Rattle.lists.proofs.Kept.{length-upto}
use Rattle.listing.specs.Cover.{word_of, float_at, floats_in}

-- ---- a word: the bytes from i on of the eight at `at` are read
pub record Word (t : List ℕ) (at v i : ℕ) : Type 0 where
  pub inside : i ≤ 8
  pub value : v ≡ word_of (take (8 - i) (drop (at + i) t))
  pub small : v < 256 ^ (8 - i)

pub no_byte : (t : List ℕ) (at : ℕ) → Word t at 0 8
no_byte t at = record { inside = omega arith; value = refl; small = omega arith }

module _ (t : List ℕ) (at v i : ℕ) (w : Word t at v i) where
  pub whole_word : i ≤ 0 → v ≡ word_of (take 8 (drop at t))
  whole_word h =
      let e : 8 - i ≡ 8 = omega arith in
      let f : at + i ≡ at = omega arith in
      rw (← e) (rw f at w.value)

  module _ (h : 0 < i) where
    -- one byte more fits
    pub word-shifts : v * 256 < 18446744073709551616
    word-shifts =
        let m : 256 ^ (8 - i) ≤ 256 ^ 7 = pow-le-pow_right (zero-lt-suc 255) {j = 7} (omega (arith, h)) in
        omega (arith, w.small, m)

    pub word_fits : (b : ℕ) → b < 256 → v * 256 + b < 18446744073709551616
    word_fits b l =
        let m : 256 ^ (8 - i) ≤ 256 ^ 7 = pow-le-pow_right (zero-lt-suc 255) {j = 7} (omega (arith, h)) in
        omega (arith, w.small, m)

    pub next-byte : at + 8 ≤ length t → (b : ℕ) → b ≡ get_or t (at + (i - 1)) 0 → b < 256 → Word t at (v * 256 + b) (i - 1)
    next-byte k b e l =
        let m : 8 - (i - 1) ≡ suc (8 - i) = omega arith in
        let n : suc (at + (i - 1)) ≡ at + i = omega arith in
        let d : drop (at + (i - 1)) t ≡ b ∷ drop (at + i) t = drop-cons t (at + (i - 1)) 0 (omega arith) ∙ rw (← e, n) in
        record {
          inside = omega (arith, w.inside);
          value = rw (m, d) (omega (arith, w.value));
          small = rw m (omega (arith, w.small));
        }

-- ---- a float by its pattern
-- one that is no number
nan-only : (x : Float) → is_nan x ≡ true → nan ≡ x
unfolding is_nan
nan-only nan e = refl
nan-only (inf s) e = clash e refl
nan-only (fin s m x) e = clash e refl

pub no_number : (bits : ℕ) → 9218868437227405312 < bits % 9223372036854775808 → (x : Float) → x ≡ nan → x ≡ of_bits binary64 bits
no_number bits h x e =
    e ∙ nan-only (of_bits binary64 bits) (sym (nan_bits_is binary64 bits) ∙ (nan_bits_above binary64 bits ∙ lt-ltb 9218868437227405312 (bits % 9223372036854775808) h))

-- any other is one
pub a-number : (bits : ℕ) → bits % 9223372036854775808 ≤ 9218868437227405312 → T (not (nan_bits binary64 bits))
a-number bits h = rw (nan_bits_above binary64 bits ∙ le-ltb 9218868437227405312 (bits % 9223372036854775808) h) tt

module _ (t : List ℕ) (i : ℕ) where
  -- too few bytes are left
  pub no-float : length t < 8 * i + 8 → (x : Float) → x ≡ nan → x ≡ float_at t i
  unfolding float_at
  no-float h x e = rw (lt-leb (8 * i + 8) (length t) h) e

  pub float_is : 8 * i + 8 ≤ length t → (w : ℕ) → w ≡ word_of (take 8 (drop (8 * i) t)) → (x : Float) → x ≡ of_bits binary64 w → x ≡ float_at t i
  unfolding float_at
  float_is h w e x f = rw (le-leb (8 * i + 8) (length t) h) (f ∙ ap (of_bits binary64) e)

-- ---- all floats of the bytes: the first i are stored
module _ (t : List ℕ) (first : List Float) (n : ℕ) where
  pub record Storing (corners : List Float) (i : ℕ) : Type 0 where
    pub inside : i ≤ n
    pub total : n ≡ (length t + 7) / 8
    pub left : Left first 0 (floats_in t) corners i (upto (float_at t) i (n - i))

  pub none-stored : n ≡ (length t + 7) / 8 → Storing first 0
  none-stored e = let z : n - 0 ≡ (length t + 7) / 8 = omega arith in record { inside = omega arith; total = e; left = rw z (left-all _ _ _) }

  module _ (corners : List Float) (i : ℕ) (s : Storing corners i) where
    pub one-stored : i < n → (x : Float) → x ≡ float_at t i → Storing (set corners i x) (i + 1)
    one-stored h x f =
        let m : n - i ≡ suc (n - (i + 1)) = omega arith in
        let k : suc i ≡ i + 1 = omega arith in
        record { inside = omega arith; total = s.total; left = left-byte _ _ _ _ _ x _ (rw (m, k, ← f) at s.left) }

    pub all-stored : n ≤ i → Put first 0 (floats_in t) corners n
    all-stored h =
        let z : n - i ≡ 0 = omega arith in
        let k : i ≡ n = omega (arith, s.inside) in
        rw (← k) (left-none _ _ _ _ _ (rw z at s.left))

-- they stand first
pub stored-first : (t : List ℕ) (first last : List Float) (r : ℕ) → length t ≤ 65536 → length first ≡ 8192 → Put first 0 (floats_in t) last r → take r last ≡ floats_in t
stored-first t first last r h l p =
    let n = length-upto (float_at t) 0 ((length t + 7) / 8) in
    let e = put-start first last (floats_in t) r (omega (arith, n)) p in
    rw e (take_at (floats_in t) (drop (length (floats_in t)) first) r (omega (arith, p.place)))

pub stored-inside : (t : List ℕ) (first last : List Float) (r : ℕ) → length t ≤ 65536 → length first ≡ 8192 → Put first 0 (floats_in t) last r → r ≤ length last
stored-inside t first last r h l p = omega (arith, length-upto (float_at t) 0 ((length t + 7) / 8), p.place, put-length first last (floats_in t) 0 r p)

pub stored-long : (t : List ℕ) (first last : List Float) (r : ℕ) → length t ≤ 65536 → length first ≡ 8192 → Put first 0 (floats_in t) last r → r ≡ length (take r last)
stored-long t first last r h l p =
    let n = length-upto (float_at t) 0 ((length t + 7) / 8) in
    omega (arith, n, p.place, length-take r last, put-length first last (floats_in t) 0 r p)
