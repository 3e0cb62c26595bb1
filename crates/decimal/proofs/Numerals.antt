-- Laws of spelling: how many digits a number has, and its first digit.
use mathlib.Core.Path.{◌≡◌, refl, sym, ap, ◌∙◌, subst}
use mathlib.Core.Bool.{Bool, true, false, cond}
use mathlib.Core.Logic.{◌⊎◌, inl, inr}
use Prim.Native.Nat.{ℕ, zero, suc, ◌+◌, ◌/◌, ◌^◌, ◌≤◌, ◌<◌, max}
use native.Mathlib.Nat.{le_refl, pow-suc, le-div_iff_mul-le, div-lt_iff_lt-mul, mul_comm, one-mul}
use native.Mathlib.Numerals.{add-one}
use native.Mathlib.Omega.{arith}
use lib.Dec.{leb}
use lib.IntN.{ℤ, pos, negsuc, nat_abs}
use lib.ListN.{length}
use borrow.Author.Tests.{leb-true, leb-false, le-leb}
use Rattle.lists.proofs.Tests.{total}
use Rattle.decimal.specs.Numerals.{digits, size, decimal, numeral}
use Rattle.decimal.proofs.Powers.{powers, positive, below_next}

-- n has c + 1 digits; 0 has one
pub record Sized (c n : ℕ) : Type 0 where
  pub least : 10 ^ c ≤ max n 1
  pub below : n < 10 ^ suc c

pub sized : (m n : ℕ) → n < 10 ^ suc m → (c : ℕ) × (c ≤ m) × (size m n ≡ suc c) × Sized c n
unfolding size
sized zero n k = (0, le_refl 0, refl, record { least = omega arith; below = k })
sized (suc m) n k = go (leb (10 ^ suc m) n) refl (sized m n)
  where
    go : (t : Bool) → leb (10 ^ suc m) n ≡ t → (n < 10 ^ suc m → (c : ℕ) × (c ≤ m) × (size m n ≡ suc c) × Sized c n)
        → (c : ℕ) × (c ≤ suc m) × (cond t (suc (suc m)) (size m n) ≡ suc c) × Sized c n
    go true e f = (suc m, le_refl (suc m), refl, record { least = omega (arith, leb-true (10 ^ suc m) n e); below = k })
    go false e f =
        let s = f (leb-false (10 ^ suc m) n e) in
        (s.0, omega (arith, s.1), s.2, s.3)

pub size_is : (m c n : ℕ) → c ≤ m → Sized c n → size m n ≡ suc c
unfolding size
size_is zero c n h s = ap suc (omega arith)
size_is (suc m) c n h s = go (leb (10 ^ suc m) n) refl (λ l. size_is m c n l s)
  where
    go : (t : Bool) → leb (10 ^ suc m) n ≡ t → (c ≤ m → size m n ≡ suc c) → cond t (suc (suc m)) (size m n) ≡ suc c
    go true e f = top (total c m)
      where
        top : (c ≤ m) ⊎ (m < c) → suc (suc m) ≡ suc c
        top (inl l) = absurd (omega (arith, powers (suc c) (suc m) (omega arith), s.below, leb-true (10 ^ suc m) n e))
        top (inr l) = omega arith
    go false e f = low (total c m)
      where
        low : (c ≤ m) ⊎ (m < c) → size m n ≡ suc c
        low (inl l) = f l
        low (inr l) = absurd (omega (arith, powers (suc m) c l, powers 1 (suc m) (omega arith), s.least, leb-false (10 ^ suc m) n e))

-- a number below a power has no more digits than this
pub sized-few : (c m n : ℕ) → Sized c n → n < 10 ^ suc m → c ≤ m
sized-few c m n s h = go (total c m)
  where
    go : (c ≤ m) ⊎ (m < c) → c ≤ m
    go (inl l) = l
    go (inr l) = absurd (omega (arith, powers (suc m) c l, s.least))

pub size_below : (m n : ℕ) → m ≤ 19 → n < 10 ^ suc m → size 19 n ≤ suc m
size_below m n l h =
    let s = sized 19 n (omega (arith, powers (suc m) 20 (omega arith))) in
    omega (arith, s.2, sized-few s.0 m n s.3 h)

-- n is told by the powers that it lies between; 10^19 and above have twenty digits
pub size_low : (n c : ℕ) → c < 19 → 10 ^ c ≤ max n 1 → n < 10 ^ (c + 1) → c + 1 ≡ size 19 n
size_low n c h l k = add-one c ∙ sym (size_is 19 c n (omega arith) (record { least = l; below = rw add-one at k }))

pub size-last : (n : ℕ) → 10 ^ 19 ≤ n → 20 ≡ size 19 n
unfolding size
size-last n h = rw (le-leb (10 ^ 19) n h)

-- as many digits as are asked for, and never more than there are powers
pub length_digits : (c n : ℕ) → length (digits c n) ≡ c
length_digits zero n = refl
length_digits (suc c) n = ap suc (length_digits c n)

pub size-most : (m n : ℕ) → size m n ≤ suc m
unfolding size
size-most zero n = le_refl 1
size-most (suc m) n = go (leb (10 ^ suc m) n) (size-most m n)
  where
    go : (t : Bool) → size m n ≤ suc m → cond t (suc (suc m)) (size m n) ≤ suc (suc m)
    go true h = le_refl (suc (suc m))
    go false h = omega arith

pub length-decimal : (n : ℕ) → length (decimal n) ≡ size 19 n
unfolding decimal
length-decimal n = length_digits (size 19 n) n

-- the front digit of a number
pub front_low : (c n : ℕ) → 0 < n → Sized c n → 1 ≤ n / 10 ^ c
front_low c n h s = (le-div_iff_mul-le (positive c)).1 (rw one-mul (omega (arith, s.least)))

pub front-high : (c n : ℕ) → Sized c n → n / 10 ^ c < 10
front-high c n s =
    (div-lt_iff_lt-mul (positive c)).1 (subst (λ (m : ℕ). n < m) (pow-suc 10 c ∙ mul_comm (10 ^ c) 10) s.below)

-- a number whose front is one digit has the digits that the front stands before
pub front-sized : (c n : ℕ) → 1 ≤ n / 10 ^ c → n / 10 ^ c < 10 → Sized c n
front-sized c n h k =
    record {
      least = omega (arith, rw one-mul at ((le-div_iff_mul-le {x = 1} (positive c)).0 h));
      below = below_next n c k;
    }

-- the digits of a number that has c + 1 of them
pub digits_decimal : (c n : ℕ) → c ≤ 19 → Sized c n → digits (suc c) n ≡ decimal n
unfolding decimal
digits_decimal c n h s = ap (λ (m : ℕ). digits m n) (sym (size_is 19 c n h s))

-- a numeral has at most twenty digits and a minus
pub numeral-few : (z : ℤ) → length (numeral z) ≤ 21
unfolding numeral
numeral-few (pos n) = omega (arith, length-decimal n, size-most 19 n)
numeral-few (negsuc n) = omega (arith, length-decimal (suc n), size-most 19 (suc n))

-- one of at most m + 1 digits has these and a minus
pub numeral-below : (m : ℕ) (z : ℤ) → m ≤ 19 → nat_abs z < 10 ^ suc m → length (numeral z) ≤ suc (suc m)
unfolding numeral
numeral-below m (pos n) l h = omega (arith, length-decimal n, size_below m n l h)
numeral-below m (negsuc n) l h = omega (arith, length-decimal (suc n), size_below m (suc n) l h)
