-- Numbers read from a place of a text, as the code does: what reading numbers promises reading lines (both in `lexer`); no public call's contract cites it.
use Rattle.std.specs.Prelude.{◌≡◌, List, Bool, true, false, ℕ, ◌-◌, ◌^◌, ◌≤◌, ◌<◌, ℤ, pos, neg_ℤ, Option, Some, None, length, drop}
use Rattle.std.proofs.Math.Option.{none, some}
use Rattle.decimal.specs.declared.Kind.{Kind}
use Rattle.decimal.specs.declared.Kind.TheVariants.{Minus, Zero, Digit, Tab, End, Other}
use Rattle.decimal.specs.declared.Digits.{Digits}
use Rattle.decimal.specs.Numerals.{most_digits}
use Rattle.decimal.specs.Reading.{Reading, more, magnitude, number}

-- ---- a number by the kinds of its bytes, as the code reads it
-- behind a minus, at the byte b of this kind
abbrev pub after_minus : Kind → ℕ → List ℕ → Reading ℤ
after_minus Minus b t = none
after_minus Zero b t = none
after_minus Digit b t = let m = more (most_digits - 1) (b - 48) t in some (neg_ℤ (pos m.0), m.1)
after_minus Tab b t = none
after_minus End b t = none
after_minus Other b t = none

-- at the byte b of this kind
abbrev pub number_at : Kind → ℕ → List ℕ → Reading ℤ
number_at Minus b t = magnitude (λ n. neg_ℤ (pos n)) t
number_at Zero b t = some (pos 0, t)
number_at Digit b t = let m = more (most_digits - 1) (b - 48) t in some (pos m.0, m.1)
number_at Tab b t = none
number_at End b t = none
number_at Other b t = none

-- a minus
abbrev pub is_minus : Kind → Bool
is_minus Minus = true
is_minus Zero = false
is_minus Digit = false
is_minus Tab = false
is_minus End = false
is_minus Other = false

-- a value that was read, and the place behind it
abbrev pub read_to : {A : Type 0} → A → ℕ → Option (A × ℕ)
read_to a next = Some (a, next)

-- the same by the bytes behind it, in a text of n bytes
abbrev pub placed : {A : Type 0} → ℕ → Reading A → Option (A × ℕ)
placed n none = None
placed n (some p) = read_to p.0 (n - length p.1)

-- the number at a place
unfoldable pub number_from : List ℕ → ℕ → Option (ℤ × ℕ)
number_from s at = placed (length s) (number (drop at s))

-- a magnitude with its sign
abbrev pub sign : Bool → ℕ → ℤ
sign true n = neg_ℤ (pos n)
sign false n = pos n

-- the number 0, which ends at a place: no minus stands before it
abbrev pub zero_at : Bool → ℕ → Option (ℤ × ℕ)
zero_at true next = None
zero_at false next = read_to (pos 0) next

-- `value` and `next` are what up to `most_digits - 1` digits more give behind `first`, from `at` on
pub record MoreFrom (s : List ℕ) (at first : ℕ) (r : Digits) : Type 0 where
  pub reads : more (most_digits - 1) first (drop at s) ≡ (r.value, drop r.next s)
  pub inside : r.next ≤ length s
  pub small : r.value < 10 ^ most_digits
