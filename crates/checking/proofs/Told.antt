-- Laws of the words of each reason, one for each return of the code.
use mathlib.Core.Path.{◌≡◌, sym, ◌∙◌}
use mathlib.Core.List.{List, [], ◌∷◌}
use mathlib.Core.Bool.{Bool, true, false}
use Prim.Native.Nat.{ℕ}
use lib.ListN.{length}
use borrow.Author.Tests.{eq-eqb, ne_eqb}
use Rattle.lists.specs.Lists.{is_some}
use Rattle.line.specs.Parsing.{line}
use Rattle.line.specs.Places.{starts_with}
use Rattle.outcomes.specs.Texts.{up_to, behind_first, text_part}
use Rattle.checking.specs.declared.reason.Reason.{Reason}
use Rattle.checking.specs.declared.reason.Reason.TheVariants as reason
use Rattle.checking.specs.Reasons.{has, leading_zero, long_number, byte_order_mark, worded, spaced, one_number, count_reason, number_reason, worded_reason, field_reason, place_reason, reason_of}
use Rattle.checking.specs.inner.Words.{reason_lines, reason_text}

-- a test's result, and what it came to
is : {test result v : Bool} → result ≡ test → result ≡ v → test ≡ v
is e f = sym e ∙ f

-- ---- numbers
module _ (l : List ℕ) where
  pub plus-told : (a : Bool) → a ≡ has 43 l → a ≡ true → reason_text reason.Plus ≡ number_reason l
  unfolding number_reason reason_text reason_lines text_part up_to behind_first
  plus-told a e t = rw (is e t)

  module _ (a : Bool) (e : a ≡ has 43 l) (f : a ≡ false) where
    pub point-told : (b : Bool) → b ≡ has 46 l → b ≡ true → reason_text reason.Point ≡ number_reason l
    unfolding number_reason reason_text reason_lines text_part up_to behind_first
    point-told b g t = rw (is e f, is g t)

    module _ (b : Bool) (g : b ≡ has 46 l) (h : b ≡ false) where
      pub zero-told : (c : Bool) → c ≡ leading_zero 0 l → c ≡ true → reason_text reason.LeadingZero ≡ number_reason l
      unfolding number_reason reason_text reason_lines text_part up_to behind_first
      zero-told c k t = rw (is e f, is g h, is k t)

      module _ (c : Bool) (k : c ≡ leading_zero 0 l) (m : c ≡ false) where
        pub long-told : (d : Bool) → d ≡ long_number 0 l → d ≡ true → reason_text reason.LongNumber ≡ number_reason l
        unfolding number_reason reason_text reason_lines text_part up_to behind_first
        long-told d n t = rw (is e f, is g h, is k m, is n t)

        pub count-told : (d : Bool) (r : Reason) → d ≡ long_number 0 l → d ≡ false → reason_text r ≡ count_reason l → reason_text r ≡ number_reason l
        unfolding number_reason
        count-told d r n o p = rw (is e f, is g h, is k m, is n o) p

-- ---- how many numbers
module _ (l : List ℕ) where
  pub one_told : (a : Bool) → a ≡ one_number l → a ≡ true → reason_text reason.OneNumber ≡ count_reason l
  unfolding count_reason reason_text reason_lines text_part up_to behind_first
  one_told a e t = rw (is e t)

  module _ (a : Bool) (e : a ≡ one_number l) (f : a ≡ false) (b : Bool) (g : b ≡ has 10 l) where
    pub line-told : b ≡ true → reason_text reason.OtherNumbers ≡ count_reason l
    unfolding count_reason reason_text reason_lines text_part up_to behind_first
    line-told t = rw (is e f, is g t)

    pub no-end-told : b ≡ false → reason_text reason.NoLineEnd ≡ count_reason l
    unfolding count_reason reason_text reason_lines text_part up_to behind_first
    no-end-told t = rw (is e f, is g t)

-- ---- word and fields
module _ (l : List ℕ) where
  pub space-told : (a : Bool) → a ≡ has 32 l → a ≡ true → reason_text reason.Space ≡ worded_reason l
  unfolding worded_reason reason_text reason_lines text_part up_to behind_first
  space-told a e t = rw (is e t)

  pub numbers-told : (a : Bool) (r : Reason) → a ≡ has 32 l → a ≡ false → reason_text r ≡ number_reason l → reason_text r ≡ worded_reason l
  unfolding worded_reason
  numbers-told a r e f p = rw (is e f) p

  pub worded-told : (a : Bool) (r : Reason) → a ≡ worded l → a ≡ true → reason_text r ≡ worded_reason l → reason_text r ≡ field_reason l
  unfolding field_reason
  worded-told a r e t p = rw (is e t) p

  module _ (a : Bool) (e : a ≡ worded l) (f : a ≡ false) (b : Bool) (g : b ≡ spaced l) where
    pub spaced-told : b ≡ true → reason_text reason.Space ≡ field_reason l
    unfolding field_reason reason_text reason_lines text_part up_to behind_first
    spaced-told t = rw (is e f, is g t)

    pub word-told : b ≡ false → reason_text reason.OtherWord ≡ field_reason l
    unfolding field_reason reason_text reason_lines text_part up_to behind_first
    word-told t = rw (is e f, is g t)

-- ---- place
pub no-plan-told : (first : Bool) → first ≡ true → reason_text reason.NoPlanLine ≡ place_reason first
unfolding place_reason reason_text reason_lines text_part up_to behind_first
no-plan-told first t = rw t

pub second-plan-told : (first : Bool) → first ≡ false → reason_text reason.SecondPlanLine ≡ place_reason first
unfolding place_reason reason_text reason_lines text_part up_to behind_first
second-plan-told first t = rw t

-- ---- the whole line
module _ (first : Bool) (l : List ℕ) where
  pub empty-told : length l ≡ 0 → reason_text reason.EmptyText ≡ reason_of first l
  unfolding reason_of reason_text reason_lines text_part up_to behind_first
  empty-told e = rw (eq-eqb (length l) 0 e)

  module _ (some : length l ≡ 0 → ⊥) where
    pub mark-told : (a : Bool) → a ≡ starts_with byte_order_mark l → a ≡ true → reason_text reason.ByteOrderMark ≡ reason_of first l
    unfolding reason_of reason_text reason_lines text_part up_to behind_first
    mark-told a e t = rw (ne_eqb (length l) 0 some, is e t)

    module _ (a : Bool) (e : a ≡ starts_with byte_order_mark l) (f : a ≡ false) where
      pub return-told : (b : Bool) → b ≡ has 13 l → b ≡ true → reason_text reason.CarriageReturn ≡ reason_of first l
      unfolding reason_of reason_text reason_lines text_part up_to behind_first
      return-told b g t = rw (ne_eqb (length l) 0 some, is e f, is g t)

      module _ (b : Bool) (g : b ≡ has 13 l) (h : b ≡ false) where
        pub blank-told : (c : Bool) → c ≡ starts_with (10 ∷ []) l → c ≡ true → reason_text reason.BlankLine ≡ reason_of first l
        unfolding reason_of reason_text reason_lines text_part up_to behind_first
        blank-told c k t = rw (ne_eqb (length l) 0 some, is e f, is g h, is k t)

        module _ (c : Bool) (k : c ≡ starts_with (10 ∷ []) l) (m : c ≡ false) (d : Bool) (n : d ≡ is_some (line l)) (r : Reason) where
          pub place-told : d ≡ true → reason_text r ≡ place_reason first → reason_text r ≡ reason_of first l
          unfolding reason_of
          place-told t p = rw (ne_eqb (length l) 0 some, is e f, is g h, is k m, is n t) p

          pub fields_told : d ≡ false → reason_text r ≡ field_reason l → reason_text r ≡ reason_of first l
          unfolding reason_of
          fields_told t p = rw (ne_eqb (length l) 0 some, is e f, is g h, is k m, is n t) p
