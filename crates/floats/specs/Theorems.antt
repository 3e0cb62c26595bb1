-- Theorem: what is promised of exact values, for all floats. Proved in proofs/Theorems.antt.
use Rattle.std.specs.Prelude.{◌≡◌, Bool, true, false, cond, ◌↔◌, ℕ, suc, ◌+◌, ◌*◌, ◌≤◌, ℤ, pos, negsuc, ◌≤ℤ◌, T, Float}
use Rattle.std.specs.Float.{nan, inf, fin, binary64}
use Rattle.std.specs.Float.Ieee.{up, down, le, of_bits}
use Rattle.floats.specs.Values.{finite, exact, floor_of, ceil_of}

abbrev pub Finite : Float → Type 0
Finite x = T (finite x)

-- x ≤ y
abbrev pub AtMost : Float → Float → Type 0
AtMost x y = T (le x y)

-- ---- 02: "taken down", "taken up"
-- z is the greatest whole number not above x
pub record IsFloor (x : Float) (z : ℤ) : Type 0 where
  pub below : AtMost (exact z) x
  pub greatest : (y : ℤ) → AtMost (exact y) x → y ≤ℤ z

-- z is the least whole number not below x
pub record IsCeil (x : Float) (z : ℤ) : Type 0 where
  pub above : AtMost x (exact z)
  pub least : (y : ℤ) → AtMost x (exact y) → z ≤ℤ y

pub record ExactValues : Type 0 where
  -- all floats but nan and the infinities have a value
  pub values : (x : Float) → Finite x ↔ ((x ≡ nan → ⊥) × ((s : Bool) → x ≡ inf s → ⊥))
  -- that of a whole number is the number
  pub whole : (n : ℕ)
      → (exact (pos n) ≡ fin false n (pos 0)) × (exact (negsuc n) ≡ fin true (suc n) (pos 0)) × (up (pos 0) ≡ 1) × (down (pos 0) ≡ 1)
  -- the order of finite floats is that of their values, m times 2 ^ e and n times 2 ^ f, below 0 where s and t are true; a and b are these times both lower
  -- numbers (specs/Values.antt)
  pub order : (s t : Bool) (m n : ℕ) (e f : ℤ) → let a = m * up e * down f in let b = n * up f * down e in
      AtMost (fin s m e) (fin t n f) ↔ (cond s 0 a + cond t b 0 ≤ cond t 0 b + cond s a 0)
  -- whole numbers keep their order
  pub wholes : (a b : ℤ) → AtMost (exact a) (exact b) ↔ (a ≤ℤ b)
  pub floor : (x : Float) → Finite x → IsFloor x (floor_of x)
  pub ceil : (x : Float) → Finite x → IsCeil x (ceil_of x)
  -- 02: "negative zero as 0": it is the pattern with the sign's bit alone
  pub negative_zero : (floor_of (of_bits binary64 0x8000_0000_0000_0000) ≡ pos 0) × (ceil_of (of_bits binary64 0x8000_0000_0000_0000) ≡ pos 0)
