-- Powers of ten: each is ten times the one before.
use mathlib.Core.Path.{◌≡◌, sym, ap, ◌∙◌, subst}
use Prim.Native.Nat.{ℕ, suc, ◌+◌, ◌*◌, ◌/◌, ◌^◌, ◌≤◌, ◌<◌}
use native.Mathlib.Nat.{pow-suc, div-div-eq-div-mul, pow-le-pow_right, one-le-pow, mul_comm, div-lt_iff_lt-mul}
use native.Mathlib.Numerals.{add-one}
use native.Mathlib.Omega.{arith}
use lib.Dec.{lit<}
use mir.Syntax.{w64}
use mir.Val.{Fits}

pub tenfold : (n c : ℕ) → n / 10 ^ suc c ≡ n / 10 ^ c / 10
tenfold n c = ap (λ (m : ℕ). n / m) (pow-suc 10 c) ∙ sym (div-div-eq-div-mul n (10 ^ c) 10)

pub powers : (c d : ℕ) → c ≤ d → 10 ^ c ≤ 10 ^ d
powers c d h = pow-le-pow_right (lit< tt) h

pub positive : (c : ℕ) → 0 < 10 ^ c
positive c = one-le-pow c 10 (lit< tt)

-- n is below the next power, as dividing by this one leaves one digit
pub below_next : (n c : ℕ) → n / 10 ^ c < 10 → n < 10 ^ suc c
below_next n c k = subst (λ (m : ℕ). n < m) (sym (pow-suc 10 c ∙ mul_comm (10 ^ c) 10)) ((div-lt_iff_lt-mul (positive c)).0 k)

-- ---- the power behind 10^c, as it is worked out
pub next-is : (c next : ℕ) → next ≡ 10 ^ (c + 1) → next * 10 ≡ 10 ^ (c + 1 + 1)
next-is c next e = ap (λ (m : ℕ). m * 10) e ∙ sym (ap (λ (m : ℕ). 10 ^ m) (add-one (c + 1)) ∙ pow-suc 10 (c + 1))

-- 10^19 fits 64 bits
pub next_fits : (c next : ℕ) → c < 18 → next ≡ 10 ^ (c + 1) → Fits w64 (next * 10)
next_fits c next h e = record { fits = omega (arith, next-is c next e, powers (c + 1 + 1) 19 (omega arith)) }
