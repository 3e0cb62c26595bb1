-- The theorem `Numbers`: what is spelled and read is what the bytes say in base ten.
use mathlib.Core.Path.{◌≡◌, refl, sym, ap, ap₂, ◌∙◌, subst}
use mathlib.Core.List.{List, [], ◌∷◌, ◌++◌, append_cancel_right}
use mathlib.Core.Bool.{true}
use mathlib.Core.Logic.{◌⊎◌, inl, inr}
use Prim.Native.Nat.{ℕ, zero, suc, ◌+◌, ◌-◌, ◌*◌, ◌/◌, ◌%◌, ◌^◌, ◌≤◌, ◌<◌}
use native.Mathlib.Nat.{pow-zero, div-one, div-le_self}
use native.Mathlib.Omega.{arith}
use lib.Dec.{lit≤}
use lib.IntN.{ℤ, pos, negsuc}
use lib.ListN.{length}
use borrow.Author.Tests.{ltb-true, lt-ltb}
use Rattle.lists.specs.Lists.{All, none_left, ◌and◌}
use Rattle.decimal.specs.Numerals.{digits, size, decimal, numeral, short}
use Rattle.decimal.specs.Reading.{number}
use Rattle.decimal.specs.Theorems.{DigitByte, value_from, Magnitude, Spells, nought, plain, minus, Numbers}
use Rattle.decimal.proofs.Powers.{tenfold, powers}
use Rattle.decimal.proofs.Bytes.{digit-no}
use Rattle.decimal.proofs.Numerals.{Sized, sized, sized-few, front_low, front-high, front-sized, length_digits, digits_decimal}
use Rattle.decimal.proofs.Reading.{Stops, number-reads, number_spelled, negative-numeral, negative-short}

-- ---- digits and what they come to
digits_are : (c n : ℕ) → All DigitByte (digits c n)
digits_are zero n = none_left
digits_are (suc c) n = ◌and◌ {a = 48 + n / 10 ^ c % 10} (omega arith, omega arith) (digits_are c n)

-- behind what stands before the last c digits of n, these come to n
digits-come : (c n v : ℕ) → v ≡ n / 10 ^ c → value_from v (digits c n) ≡ n
digits-come zero n v e = e ∙ rw (pow-zero, div-one)
digits-come (suc c) n v e =
    let x : ℕ = n / 10 ^ c in
    digits-come c n (10 * v + (48 + x % 10 - 48)) (omega (arith, tenfold n c))

-- whatever digits come to n behind v are the last ones of n
pub record Last (v n : ℕ) (t : List ℕ) : Type 0 where
  pub text : t ≡ digits (length t) n
  pub front : n / 10 ^ length t ≡ v

last_digits : (v : ℕ) (t : List ℕ) → All DigitByte t → Last v (value_from v t) t
last_digits v [] a = record { text = refl; front = div-one v }
last_digits v (b ∷ t) (◌and◌ d a) =
    let r = last_digits (10 * v + (b - 48)) t a in
    let n : ℕ = value_from (10 * v + (b - 48)) t in
    let x : b ≡ 48 + n / 10 ^ length t % 10 = omega (arith, r.front) in
    let y : n / 10 ^ length t / 10 ≡ v = omega (arith, r.front) in
    record { text = ap₂ ◌∷◌ x r.text; front = tenfold n (length t) ∙ y }

-- ---- a magnitude
module _ (m n : ℕ) (most : m ≤ 19) (t : List ℕ) where
  pub magnitude-put : 0 < n → n < 10 ^ suc m → t ≡ decimal n → Magnitude m t n
  magnitude-put h k e =
      let s = sized 19 n (omega (arith, powers (suc m) 20 (omega arith))) in
      let c : ℕ = s.0 in
      let lo = front_low c n h s.3 in
      let hi = front-high c n s.3 in
      let d : t ≡ digits (suc c) n = e ∙ sym (digits_decimal c n s.1 s.3) in
      let few : c ≤ m = sized-few c m n s.3 k in
      record {
        first = 48 + n / 10 ^ c % 10;
        low = omega arith;
        high = omega arith;
        others = digits c n;
        digits = digits_are c n;
        few = omega (arith, length_digits c n);
        text = d;
        value = sym (ap (value_from 0) d ∙ digits-come c n (10 * 0 + (48 + n / 10 ^ c % 10 - 48)) (omega arith));
      }

  pub magnitude-is : Magnitude m t n → (t ≡ decimal n) × (0 < n) × (n < 10 ^ suc m)
  magnitude-is g =
      let b : ℕ = g.first in
      let o : List ℕ = g.others in
      let c : ℕ = length o in
      let v : n ≡ value_from (10 * 0 + (b - 48)) o = g.value ∙ ap (value_from 0) g.text in
      let r : Last (10 * 0 + (b - 48)) n o = subst (λ (i : ℕ). Last (10 * 0 + (b - 48)) i o) (sym v) (last_digits (10 * 0 + (b - 48)) o g.digits) in
      let s : Sized c n = front-sized c n (omega (arith, r.front, g.low)) (omega (arith, r.front, g.high)) in
      let x : b ≡ 48 + n / 10 ^ c % 10 = omega (arith, r.front, g.low, g.high) in (
        g.text ∙ (ap₂ ◌∷◌ x r.text ∙ digits_decimal c n (omega (arith, g.few)) s),
        omega (arith, r.front, g.low, div-le_self n (10 ^ c)),
        omega (arith, s.below, powers (suc c) (suc m) (omega (arith, g.few))),
      )

-- ---- a number with its sign
spells : (t : List ℕ) (z : ℤ) → short z ≡ true → t ≡ numeral z → Spells t z
unfolding numeral
spells t (pos zero) h e = nought (e ∙ (unfold decimal size in refl)) refl
spells t (pos (suc n)) h e = plain (suc n) (magnitude-put 7 (suc n) (lit≤ tt) t (omega arith) (ltb-true (suc n) (10 ^ 8) h) e) refl
spells t (negsuc n) h e = minus (suc n) (decimal (suc n)) e (magnitude-put 7 (suc n) (lit≤ tt) (decimal (suc n)) (omega arith) (ltb-true (suc n) (10 ^ 8) h) refl) refl

spelt : (t : List ℕ) (z : ℤ) → Spells t z → (short z ≡ true) × (t ≡ numeral z)
unfolding numeral
spelt t z (nought e f) = rw (e, f) (refl, (unfold decimal size in refl))
spelt t z (plain n g f) =
    let d = magnitude-is 7 n (lit≤ tt) t g in
    rw f (lt-ltb n (10 ^ 8) d.2, d.0)
spelt t z (minus n u e g f) =
    let d = magnitude-is 7 n (lit≤ tt) u g in
    rw f (negative-short n d.2, e ∙ (ap (λ (l : List ℕ). 45 ∷ l) d.0 ∙ sym (negative-numeral n d.1)))

no_digit : (e : ℕ) (r : List ℕ) → (e < 48) ⊎ (57 < e) → Stops (e ∷ r)
no_digit e r (inl h) = digit-no e (λ d. omega arith)
no_digit e r (inr h) = digit-no e (λ d. omega arith)

pub numbers : Numbers
numbers =
    record {
      spelled = λ t z. (λ h. spells t z h.0 h.1, spelt t z);
      read = λ t z e r o. (
        λ h. let s = number_spelled (t ++ e ∷ r) z (e ∷ r) h in spells t z s.few (append_cancel_right t (numeral z) (e ∷ r) s.text),
        λ h. let s = spelt t z h in ap (λ (l : List ℕ). number (l ++ e ∷ r)) s.1 ∙ number-reads z (e ∷ r) s.0 (no_digit e r o),
      );
      put = λ t n h k. (
        magnitude-put 19 n (lit≤ tt) t h (omega arith),
        λ g. (magnitude-is 19 n (lit≤ tt) t g).0,
      );
      nought = unfold decimal size in refl;
    }
