-- Theorem: which bytes are a number, and which number they are, in bytes and base ten alone. Proved in proofs/Theorems.antt.
use Rattle.std.specs.Prelude.{◌≡◌, List, [], ◌∷◌, ◌++◌, true, ◌↔◌, ◌⊎◌, ℕ, ◌+◌, ◌-◌, ◌*◌, ◌≤◌, ◌<◌, ℤ, pos, neg_ℤ, length}
use Rattle.std.proofs.Math.Option.{some}
use Rattle.lists.specs.Lists.{All}
use Rattle.decimal.specs.Numerals.{decimal, numeral, short}
use Rattle.decimal.specs.Reading.{number}

-- a digit 0 to 9, the bytes 48 to 57
abbrev pub DigitByte : ℕ → Type 0
DigitByte b = (48 ≤ b) × (b ≤ 57)

-- what digits come to behind v, in base ten, the highest first
abbrev pub value_from : ℕ → List ℕ → ℕ
value_from v [] = v
value_from v (b ∷ t) = value_from (10 * v + (b - 48)) t

-- t is a digit 1 to 9, the bytes 49 to 57, and up to m digits more; n is what they come to
pub record Magnitude (m : ℕ) (t : List ℕ) (n : ℕ) : Type 0 where
  pub first : ℕ
  pub low : 49 ≤ first
  pub high : first ≤ 57
  pub others : List ℕ
  pub digits : All DigitByte others
  pub few : length others ≤ m
  pub text : t ≡ first ∷ others
  pub value : n ≡ value_from 0 t

-- 01: "A number is 0, or an optional minus, a digit 1 to 9 and up to .. digits more, in base ten": seven more, since 02, Q-13, "a number in a text may have
-- eight digits"
pub data Spells (t : List ℕ) (z : ℤ) : Type 0 where
  nought : t ≡ 48 ∷ [] → z ≡ pos 0 → Spells t z
  plain : (n : ℕ) → Magnitude 7 t n → z ≡ pos n → Spells t z
  minus : (n : ℕ) (u : List ℕ) → t ≡ 45 ∷ u → Magnitude 7 u n → z ≡ neg_ℤ (pos n) → Spells t z

pub record Numbers : Type 0 where
  -- the bytes that a text may have for a number are those that spell it so ..
  pub spelled : (t : List ℕ) (z : ℤ) → ((short z ≡ true) × (t ≡ numeral z)) ↔ Spells t z
  -- .. and where no digit follows, just these are read as a number, and as this one
  pub read : (t : List ℕ) (z : ℤ) (e : ℕ) (r : List ℕ) → (e < 48) ⊎ (57 < e) → (number (t ++ e ∷ r) ≡ some (z, e ∷ r)) ↔ Spells t z
  -- any number of 64 bits from 1 on is put as its digits, none of them a 0 in front; there are at most twenty. 0 is the byte 48
  pub put : (t : List ℕ) (n : ℕ) → 0 < n → n < 18446744073709551616 → (t ≡ decimal n) ↔ Magnitude 19 t n
  pub nought : decimal 0 ≡ 48 ∷ []
