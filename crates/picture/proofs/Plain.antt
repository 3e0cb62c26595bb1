-- Bytes that stand in texts and values alike: all but <, >, & and the apostrophe.
use mathlib.Core.Path.{◌≡◌, refl}
use mathlib.Core.List.{List, [], ◌∷◌, ◌++◌}
use mathlib.Core.Bool.{true}
use mathlib.Core.Logic.{◌⊎◌, inl, inr}
use Prim.Native.Nat.{ℕ, zero, suc, ◌+◌, ◌<◌, ◌/◌, ◌%◌, ◌^◌}
use native.Mathlib.Omega.{arith}
use lib.IntN.{ℤ, pos, negsuc}
use borrow.Author.Tests.{ne_eqb, le-leb}
use Rattle.lists.specs.Lists.{All, none_left, ◌and◌}
use Rattle.decimal.specs.Numerals.{digits, size, decimal, numeral}
use Rattle.picture.specs.Markup.{text, value, is_printed, step, scan}

pub record Plain (b : ℕ) : Type 0 where
  pub less : b ≡ 60 → ⊥
  pub more : b ≡ 62 → ⊥
  pub entity : b ≡ 38 → ⊥
  pub quote : b ≡ 39 → ⊥
  pub printed : is_printed b ≡ true

pub text-plain : (opened : List (List ℕ)) (l : List ℕ) → All Plain l → scan (text opened) l ≡ text opened
unfolding step
text-plain opened [] a = refl
text-plain opened (b ∷ l) (◌and◌ p a) = rw (ne_eqb b 60 p.less, ne_eqb b 62 p.more, ne_eqb b 38 p.entity, p.printed) (text-plain opened l a)

pub value-plain : (n : List ℕ) (opened : List (List ℕ)) (l : List ℕ) → All Plain l → scan (value n opened) l ≡ value n opened
unfolding step
value-plain n opened [] a = refl
value-plain n opened (b ∷ l) (◌and◌ p a) = rw (ne_eqb b 39 p.quote, ne_eqb b 60 p.less, ne_eqb b 38 p.entity, p.printed) (value-plain n opened l a)

-- a byte that is none of these four
pub byte-plain : (b : ℕ) → (b < 38) ⊎ (62 < b) → is_printed b ≡ true → Plain b
byte-plain b (inl h) e = record { less = λ q. omega arith; more = λ q. omega arith; entity = λ q. omega arith; quote = λ q. omega arith; printed = e }
byte-plain b (inr h) e = record { less = λ q. omega arith; more = λ q. omega arith; entity = λ q. omega arith; quote = λ q. omega arith; printed = e }

pub plain-append : (a b : List ℕ) → All Plain a → All Plain b → All Plain (a ++ b)
plain-append [] b p q = q
plain-append (x ∷ a) b (◌and◌ h p) q = ◌and◌ h (plain-append a b p q)

-- ---- numbers
digit-plain : (d : ℕ) → d < 10 → Plain (48 + d)
digit-plain d h =
    record {
      less = λ q. omega arith;
      more = λ q. omega arith;
      entity = λ q. omega arith;
      quote = λ q. omega arith;
      printed = rw (le-leb 32 (48 + d) (omega arith), le-leb (48 + d) 126 (omega arith)) refl;
    }

digits-plain : (c n : ℕ) → All Plain (digits c n)
digits-plain zero n = none_left
digits-plain (suc c) n = ◌and◌ {a = 48 + n / 10 ^ c % 10} (digit-plain (n / 10 ^ c % 10) (omega arith)) (digits-plain c n)

pub decimal-plain : (n : ℕ) → All Plain (decimal n)
unfolding decimal
decimal-plain n = digits-plain (size 19 n) n

pub numeral-plain : (z : ℤ) → All Plain (numeral z)
unfolding numeral
numeral-plain (pos n) = decimal-plain n
numeral-plain (negsuc n) = ◌and◌ {a = 45} (record { less = λ e. omega arith; more = λ e. omega arith; entity = λ e. omega arith; quote = λ e. omega arith; printed = refl }) (decimal-plain (suc n))
