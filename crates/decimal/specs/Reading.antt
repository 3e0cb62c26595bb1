-- Numbers read from the start of a text. 01: "A number is 0, or an optional minus, a digit 1 to 9 and up to .. digits more, in base ten"; 02, Q-13: of
-- eight digits
use Rattle.std.specs.Prelude.{List, [], ◌∷◌, cond, ◌&&◌, ℕ, zero, suc, ◌+◌, ◌-◌, ◌*◌, eqb, leb, ℤ, pos, neg_ℤ}
use Rattle.std.proofs.Math.Option.{Option, none, some}
use Rattle.decimal.specs.Numerals.{most_digits}

-- what was read, and the bytes behind it
abbrev pub Reading : Type 0 → Type 0
Reading A = Option (A × List ℕ)

-- up to f digits more, the bytes 48 to 57, behind those of v: the value of all, and the bytes behind
abbrev pub more : ℕ → ℕ → List ℕ → ℕ × List ℕ
more zero v t = (v, t)
more (suc f) v [] = (v, [])
more (suc f) v (b ∷ t) = cond (leb 48 b && leb b 57) (more f (v * 10 + (b - 48)) t) (v, b ∷ t)

-- a digit 1 to 9, the bytes 49 to 57, and up to `most_digits - 1` more, with a sign
abbrev pub magnitude : (sign : ℕ → ℤ) → List ℕ → Reading ℤ
magnitude sign [] = none
magnitude sign (b ∷ t) = let m = more (most_digits - 1) (b - 48) t in cond (leb 49 b && leb b 57) (some (sign m.0, m.1)) none

-- the number at the start of a text: 45 is a minus, 48 is 0
unfoldable pub number : List ℕ → Reading ℤ
number [] = none
number (b ∷ t) = cond (eqb b 45) (magnitude (λ n. neg_ℤ (pos n)) t) (cond (eqb b 48) (some (pos 0, t)) (magnitude pos (b ∷ t)))
