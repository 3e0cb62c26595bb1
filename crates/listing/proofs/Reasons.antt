-- Laws of what is wrong with a line of a windows text that is not well formed, one for each return of the code; and how its words are put.
use mathlib.Core.Path.{◌≡◌, refl, sym, ap, ◌∙◌}
use mathlib.Core.List.{List, [], ◌∷◌, ◌++◌}
use mathlib.Core.Bool.{Bool, true, false}
use Prim.Native.Nat.{ℕ, suc, ◌-◌, ◌≤◌}
use native.Mathlib.Omega.{arith}
use lib.ListN.{length, take, drop}
use borrow.Author.Tests.{ne_eqb}
use Rattle.lists.specs.inner.Stores.{Put}
use Rattle.line.specs.Places.{starts_with}
use Rattle.printing.specs.inner.Parts.{FitsAt}
use Rattle.outcomes.specs.Texts.{ascii, text_part}
use Rattle.outcomes.proofs.Texts.{part-few}
use Rattle.checking.specs.Reasons.{has, leading_zero, long_number, byte_order_mark}
use Rattle.checking.specs.Places.{first_line, EndsAt}
use Rattle.listing.specs.declared.reason.Reason.{Reason}
use Rattle.listing.specs.declared.reason.Reason.TheVariants as reason
use Rattle.listing.specs.Reasons.{WINDOW, reason_number, window_reasons, window_words, numbers_reason, fields_reason, word_reason, line_reason}
use Rattle.listing.specs.inner.Parts.{told_reason}

-- only one reason has the number 1, only one the number 2, and none the number 0
pub numbers_only : (e : Reason) → reason_number e ≡ 1 → e ≡ reason.OtherNumbers
numbers_only reason.OtherNumbers h = refl
numbers_only reason.WrongWindow h = absurd (omega (arith, h))
numbers_only reason.ManyWindows h = absurd (omega (arith, h))
numbers_only reason.FewWindows h = absurd (omega (arith, h))
numbers_only reason.ByteOrderMark h = absurd (omega (arith, h))
numbers_only reason.CarriageReturn h = absurd (omega (arith, h))
numbers_only reason.BlankLine h = absurd (omega (arith, h))
numbers_only reason.Space h = absurd (omega (arith, h))
numbers_only reason.OtherWord h = absurd (omega (arith, h))
numbers_only reason.Plus h = absurd (omega (arith, h))
numbers_only reason.Point h = absurd (omega (arith, h))
numbers_only reason.LeadingZero h = absurd (omega (arith, h))
numbers_only reason.LongNumber h = absurd (omega (arith, h))
numbers_only reason.NoLineEnd h = absurd (omega (arith, h))

pub window_only : (e : Reason) → reason_number e ≡ 2 → e ≡ reason.WrongWindow
window_only reason.WrongWindow h = refl
window_only reason.OtherNumbers h = absurd (omega (arith, h))
window_only reason.ManyWindows h = absurd (omega (arith, h))
window_only reason.FewWindows h = absurd (omega (arith, h))
window_only reason.ByteOrderMark h = absurd (omega (arith, h))
window_only reason.CarriageReturn h = absurd (omega (arith, h))
window_only reason.BlankLine h = absurd (omega (arith, h))
window_only reason.Space h = absurd (omega (arith, h))
window_only reason.OtherWord h = absurd (omega (arith, h))
window_only reason.Plus h = absurd (omega (arith, h))
window_only reason.Point h = absurd (omega (arith, h))
window_only reason.LeadingZero h = absurd (omega (arith, h))
window_only reason.LongNumber h = absurd (omega (arith, h))
window_only reason.NoLineEnd h = absurd (omega (arith, h))

pub number-above : (e : Reason) → reason_number e ≡ 0 → ⊥
number-above reason.OtherNumbers h = omega (arith, h)
number-above reason.WrongWindow h = omega (arith, h)
number-above reason.ManyWindows h = omega (arith, h)
number-above reason.FewWindows h = omega (arith, h)
number-above reason.ByteOrderMark h = omega (arith, h)
number-above reason.CarriageReturn h = omega (arith, h)
number-above reason.BlankLine h = omega (arith, h)
number-above reason.Space h = omega (arith, h)
number-above reason.OtherWord h = omega (arith, h)
number-above reason.Plus h = omega (arith, h)
number-above reason.Point h = omega (arith, h)
number-above reason.LeadingZero h = omega (arith, h)
number-above reason.LongNumber h = omega (arith, h)
number-above reason.NoLineEnd h = omega (arith, h)

-- a test's result, and what it came to
is : {test result v : Bool} → result ≡ test → result ≡ v → test ≡ v
is e f = sym e ∙ f

module _ (l : List ℕ) where
  -- ---- numbers
  pub zero-told : (a : Bool) → a ≡ leading_zero 0 l → a ≡ true → 12 ≡ suc (numbers_reason l)
  unfolding numbers_reason
  zero-told a e t = rw (is e t) refl

  module _ (a : Bool) (e : a ≡ leading_zero 0 l) (f : a ≡ false) where
    pub long-told : (b : Bool) → b ≡ long_number 0 l → b ≡ true → 13 ≡ suc (numbers_reason l)
    unfolding numbers_reason
    long-told b g t = rw (is e f, is g t) refl

    module _ (b : Bool) (g : b ≡ long_number 0 l) (h : b ≡ false) (c : Bool) (k : c ≡ has 10 l) where
      pub numbers-told : c ≡ true → 1 ≡ suc (numbers_reason l)
      unfolding numbers_reason
      numbers-told t = rw (is e f, is g h, is k t) refl

      pub no-end-told : c ≡ false → 14 ≡ suc (numbers_reason l)
      unfolding numbers_reason
      no-end-told t = rw (is e f, is g h, is k t) refl

  -- ---- fields
  pub space-told : (a : Bool) → a ≡ has 32 l → a ≡ true → 8 ≡ suc (fields_reason l)
  unfolding fields_reason
  space-told a e t = rw (is e t) refl

  module _ (a : Bool) (e : a ≡ has 32 l) (f : a ≡ false) where
    pub plus-told : (b : Bool) → b ≡ has 43 l → b ≡ true → 10 ≡ suc (fields_reason l)
    unfolding fields_reason
    plus-told b g t = rw (is e f, is g t) refl

    module _ (b : Bool) (g : b ≡ has 43 l) (h : b ≡ false) where
      pub point-told : (c : Bool) → c ≡ has 46 l → c ≡ true → 11 ≡ suc (fields_reason l)
      unfolding fields_reason
      point-told c k t = rw (is e f, is g h, is k t) refl

      pub fields_told : (c : Bool) → c ≡ has 46 l → c ≡ false → (r : ℕ) → r ≡ suc (numbers_reason l) → r ≡ suc (fields_reason l)
      unfolding fields_reason
      fields_told c k t r p = rw (is e f, is g h, is k t) p

  -- ---- the word
  pub before-told : (a : Bool) → a ≡ starts_with (ascii " ") l → a ≡ true → 8 ≡ suc (word_reason l)
  unfolding word_reason
  before-told a e t = rw (is e t) refl

  module _ (a : Bool) (e : a ≡ starts_with (ascii " ") l) (f : a ≡ false) (b : Bool) (g : b ≡ starts_with (ascii "WINDOW ") l) where
    pub behind-told : b ≡ true → 8 ≡ suc (word_reason l)
    unfolding word_reason
    behind-told t = rw (is e f, is g t) refl

    pub word-told : b ≡ false → 9 ≡ suc (word_reason l)
    unfolding word_reason
    word-told t = rw (is e f, is g t) refl

  -- ---- the line
  pub mark-told : (a : Bool) → a ≡ starts_with byte_order_mark l → a ≡ true → 5 ≡ suc (line_reason l)
  unfolding line_reason
  mark-told a e t = rw (is e t) refl

  module _ (a : Bool) (e : a ≡ starts_with byte_order_mark l) (f : a ≡ false) where
    pub return-told : (b : Bool) → b ≡ has 13 l → b ≡ true → 6 ≡ suc (line_reason l)
    unfolding line_reason
    return-told b g t = rw (is e f, is g t) refl

    module _ (b : Bool) (g : b ≡ has 13 l) (h : b ≡ false) where
      pub blank-told : (c : Bool) → c ≡ starts_with (10 ∷ []) l → c ≡ true → 7 ≡ suc (line_reason l)
      unfolding line_reason
      blank-told c k t = rw (is e f, is g h, is k t) refl

      module _ (c : Bool) (k : c ≡ starts_with (10 ∷ []) l) (m : c ≡ false) (d : Bool) (n : d ≡ starts_with WINDOW l) (r : ℕ) where
        pub worded-told : d ≡ true → r ≡ suc (fields_reason l) → r ≡ suc (line_reason l)
        unfolding line_reason
        worded-told t p = rw (is e f, is g h, is k m, is n t) p

        pub other-told : d ≡ false → r ≡ suc (word_reason l) → r ≡ suc (line_reason l)
        unfolding line_reason
        other-told t p = rw (is e f, is g h, is k m, is n t) p

  -- ---- what was found wrong, and what is told
  pub told_same : (e : Reason) → (e ≡ reason.OtherNumbers → ⊥) → reason_number e ≡ told_reason e l
  told_same e h = rw (ne_eqb (reason_number e) 1 (λ z. h (numbers_only e z))) refl

pub told_line : (t : List ℕ) (at end : ℕ) (e r : Reason) → EndsAt t at end → e ≡ reason.OtherNumbers → reason_number r ≡ suc (line_reason (take (end - at) (drop at t)))
    → reason_number r ≡ told_reason e (first_line (drop at t))
told_line t at end e r l h f = rw h (f ∙ ap (λ (b : List ℕ). suc (line_reason b)) l.bytes)

-- ---- the words
pub words-few : (number : ℕ) → length (window_words number) ≤ 478
unfolding window_words window_reasons
words-few number = part-few 10 number window_reasons
