-- Laws of the numbers among the arguments.
use mathlib.Core.Path.{◌≡◌, refl, sym, ap, ◌∙◌}
use mathlib.Core.List.{List, [], ◌∷◌}
use mathlib.Core.Option.{none, some}
use mathlib.Core.Bool.{Bool, true, false}
use Prim.Native.Nat.{ℕ, suc}
use native.Mathlib.Omega.{arith}
use lib.Dec.{eqb}
use lib.IntN.{ℤ, pos, negsuc, nat_abs}
use lib.Signed.{lt_z}
use lib.ListN.{length}
use borrow.Author.Tests.{eq-eqb, ne_eqb, ltb-true}
use Rattle.lists.specs.Lists.{is_some}
use Rattle.lists.proofs.Tests.{clash}
use Rattle.std.specs.Prelude.{Option, Some, None}
use Rattle.decimal.specs.Reading.{Reading, number}
use Rattle.decimal.specs.inner.Places.{read_to, placed, number_from}
use Rattle.commands.specs.Arguments.{box_of, argument, whole, is_number, value_in, argument_value, natural_of, from_one, layer_in}

-- ---- numbers
abbrev is-value : Option (ℤ × ℕ) → Bool
is-value (Some p) = true
is-value None = false

abbrev value_of_number : ℤ → Option (ℤ × ℕ) → ℤ
value_of_number d (Some p) = p.0
value_of_number d None = d

abbrev place_in : Option (ℤ × ℕ) → ℕ
place_in (Some p) = p.1
place_in None = 0

-- a reading of a word of at least one byte takes the whole word where it ends behind its last byte
module _ (n : ℕ) (z : ℤ) (next : ℕ) where
  reading-whole : (r : Reading ℤ) → read_to z next ≡ placed (suc n) r → eqb next (suc n) ≡ is_some (whole r)
  reading-whole none e = clash refl (ap is-value e)
  reading-whole (some (y, [])) e = let h = ap place_in e in eq-eqb next (suc n) (omega (arith, h))
  reading-whole (some (y, b ∷ t)) e = let h = ap place_in e in ne_eqb next (suc n) (λ g. omega (arith, h, g))

word-whole : (word : List ℕ) (z : ℤ) (next : ℕ) → read_to z next ≡ number_from word 0 → eqb next (length word) ≡ is_number word
unfolding number_from is_number number
word-whole [] z next e = clash refl (ap is-value e)
word-whole (b ∷ t) z next e = reading-whole (length t) z next (number (b ∷ t)) e

pub number-whole : (word : List ℕ) (r : Option (ℤ × ℕ)) (z : ℤ) (next : ℕ) → r ≡ number_from word 0 → r ≡ read_to z next → eqb next (length word) ≡ is_number word
number-whole word r z next e f = word-whole word z next (sym f ∙ e)

reading-none : (n : ℕ) (r : Reading ℤ) → None ≡ placed n r → false ≡ is_some (whole r)
reading-none n none e = refl
reading-none n (some p) e = clash refl (ap is-value (sym e))

pub number-none : (word : List ℕ) (r : Option (ℤ × ℕ)) → r ≡ number_from word 0 → r ≡ None → false ≡ is_number word
unfolding number_from is_number
number-none word r e f = reading-none (length word) (number word) (sym f ∙ e)

-- ---- which number a word is
reading-value : (n : ℕ) (r : Reading ℤ) (z : ℤ) (place : ℕ) → read_to z place ≡ placed n r → z ≡ value_in r
reading-value n none z place e = clash refl (ap is-value e)
reading-value n (some (y, t)) z place e = ap (value_of_number z) e

pub number-value : (word : List ℕ) (r : Option (ℤ × ℕ)) (z : ℤ) (place : ℕ) → r ≡ number_from word 0 → r ≡ read_to z place → z ≡ argument_value word
unfolding number_from argument_value
number-value word r z place e f = reading-value (length word) (number word) z place (sym f ∙ e)

reading-zero : (n : ℕ) (r : Reading ℤ) → None ≡ placed n r → value_in r ≡ pos 0
reading-zero n none e = refl
reading-zero n (some p) e = clash refl (ap is-value (sym e))

pub number-zero : (word : List ℕ) (r : Option (ℤ × ℕ)) → r ≡ number_from word 0 → r ≡ None → pos 0 ≡ argument_value word
unfolding number_from argument_value
number-zero word r e f = sym (reading-zero (length word) (number word) (sym f ∙ e))

pub natural-below : (z : ℤ) → lt_z z (pos 0) ≡ true → 4294967295 ≡ natural_of z
natural-below (pos n) h = let k = ltb-true n 0 h in omega (arith, k)
natural-below (negsuc n) h = refl

pub natural-same : (z : ℤ) → lt_z z (pos 0) ≡ false → nat_abs z ≡ natural_of z
natural-same (pos n) h = refl
natural-same (negsuc n) h = clash refl h

pub layer-none : (numbers : ℕ) (args : List ℕ) → numbers ≡ 0 → layer_in numbers args ≡ 0
layer-none numbers args h = rw (eq-eqb numbers 0 h) refl

module _ (numbers : ℕ) (args : List ℕ) (n : ℕ) (h : numbers ≡ 0 → ⊥) (e : n ≡ natural_of (argument_value (argument 1 args))) where
  layer-there : from_one n ≡ layer_in numbers args
  layer-there = ap from_one e ∙ sym (rw (ne_eqb numbers 0 h) refl)

  pub layer-zero : n ≡ 0 → 4294967295 ≡ layer_in numbers args
  layer-zero z = sym (rw (eq-eqb n 0 z) refl) ∙ layer-there

  pub layer-given : (n ≡ 0 → ⊥) → n ≡ layer_in numbers args
  layer-given z = sym (rw (ne_eqb n 0 z) refl) ∙ layer-there

pub box-is : (args : List ℕ) (left bottom right top : ℤ) → left ≡ argument_value (argument 1 args) → bottom ≡ argument_value (argument 2 args)
    → right ≡ argument_value (argument 3 args) → top ≡ argument_value (argument 4 args) → record { left = left; bottom = bottom; right = right; top = top } ≡ box_of args
unfolding box_of
box-is args left bottom right top e f g h = rw (e, f, g, h)
