-- Laws of the tests of a line's word and of its one number, as the code makes them.
use mathlib.Core.Path.{◌≡◌, refl, sym, ap, ◌∙◌}
use mathlib.Core.List.{List}
use mathlib.Core.Bool.{Bool, true, false, not, cond}
use mathlib.Core.Logic.{◌⊎◌, inl, inr}
use Prim.Native.Nat.{ℕ, ◌+◌, ◌≤◌, ◌<◌}
use native.Mathlib.Omega.{arith}
use lib.Dec.{eqb}
use lib.ListN.{length, get_or, drop, drop_of_length-le}
use borrow.Author.Tests.{not-true, not-false}
use mathlib.Core.Option.{none, some}
use Rattle.std.specs.Option as option
use Rattle.lists.specs.Lists.{is_some}
use Rattle.decimal.specs.Reading.{Reading}
use Rattle.decimal.specs.inner.Places.{placed}
use Rattle.lists.proofs.Tests.{clash, total}
use Rattle.decimal.proofs.Places.{at_byte}
use Rattle.line.specs.declared.Line.{Line}
use Rattle.line.specs.Lines.{PLAN, LAYER, RECT}
use Rattle.line.specs.Parsing.{line}
use Rattle.line.specs.Places.{starts_with, line_from}
use Rattle.line.proofs.Words.{too_short}
use Rattle.outcomes.specs.Texts.{ascii}
use Rattle.checking.specs.Reasons.{digit, digit_next, worded, spaced, digits_end, one_number}

-- ---- digits up to the line end
-- the rest of the line, from i on, decides
pub record Ending (l : List ℕ) (i : ℕ) : Type 0 where
  pub gives : digits_end (drop i l) ≡ digits_end l
  pub inside : i ≤ length l

module _ (l : List ℕ) (i : ℕ) (k : Ending l i) where
  next-digit : i < length l → cond (digit (get_or l i 0)) (digits_end (drop (i + 1) l)) (eqb (get_or l i 0) 10) ≡ digits_end l
  next-digit h = sym (ap digits_end (at_byte l i h)) ∙ k.gives

  pub ending-found : (v : Bool) → i < length l → v ≡ digit (get_or l i 0) → not v ≡ true → eqb (get_or l i 0) 10 ≡ digits_end l
  ending-found v h e f = sym (rw (sym e ∙ not-true v f)) ∙ next-digit h

  pub ending-more : (v : Bool) → i < length l → v ≡ digit (get_or l i 0) → not v ≡ false → Ending l (i + 1)
  ending-more v h e t = record { gives = sym (rw (sym e ∙ not-false v t)) ∙ next-digit h; inside = omega arith }

  pub ending-none : length l ≤ i → false ≡ digits_end l
  ending-none h = sym (ap digits_end (drop_of_length-le l {i = i} h)) ∙ k.gives

-- ---- a line's word
module _ (l : List ℕ) where
  pub line-told : option.is_some (line_from l 0) ≡ is_some (line l)
  unfolding line_from
  line-told = go (line l)
    where
      go : (o : Reading Line) → option.is_some (placed (length l) o) ≡ is_some o
      go none = refl
      go (some p) = refl

  pub rect-word : (u : Bool) → u ≡ starts_with RECT l → u ≡ true → u ≡ worded l
  unfolding worded
  rect-word u e t = rw (sym e ∙ t) t

  pub layer-word : (u v : Bool) → u ≡ starts_with RECT l → u ≡ false → v ≡ starts_with LAYER l → v ≡ true → v ≡ worded l
  unfolding worded
  layer-word u v e f g t = rw (sym e ∙ f, sym g ∙ t) t

  pub plan-word : (u v w : Bool) → u ≡ starts_with RECT l → u ≡ false → v ≡ starts_with LAYER l → v ≡ false → w ≡ starts_with PLAN l → w ≡ worded l
  unfolding worded
  plan-word u v w e f g h p = rw (sym e ∙ f, sym g ∙ h) p

  pub no-space : (u v w x : Bool) → u ≡ starts_with (ascii " ") l → u ≡ false → v ≡ starts_with (ascii "RECT ") l → v ≡ false → w ≡ starts_with (ascii "LAYER ") l → w ≡ false
      → x ≡ starts_with (ascii "PLAN ") l → x ≡ spaced l
  unfolding spaced
  no-space u v w x e f g h i j k = rw (sym e ∙ f, sym g ∙ h, sym i ∙ j) k

  pub space_first : (u : Bool) → u ≡ starts_with (ascii " ") l → u ≡ true → u ≡ spaced l
  unfolding spaced
  space_first u e t = rw (sym e ∙ t) t

  pub rect-space : (u v : Bool) → u ≡ starts_with (ascii " ") l → u ≡ false → v ≡ starts_with (ascii "RECT ") l → v ≡ true → v ≡ spaced l
  unfolding spaced
  rect-space u v e f g t = rw (sym e ∙ f, sym g ∙ t) t

  pub layer-space : (u v w : Bool) → u ≡ starts_with (ascii " ") l → u ≡ false → v ≡ starts_with (ascii "RECT ") l → v ≡ false → w ≡ starts_with (ascii "LAYER ") l → w ≡ true
      → w ≡ spaced l
  unfolding spaced
  layer-space u v w e f g h i t = rw (sym e ∙ f, sym g ∙ h, sym i ∙ t) t

  pub no_layer : (u : Bool) → u ≡ starts_with LAYER l → u ≡ false → u ≡ one_number l
  unfolding one_number
  no_layer u e f = rw (sym e ∙ f) f

  module _ (u : Bool) (e : u ≡ starts_with LAYER l) (t : u ≡ true) where
    pub no_number : (v : Bool) → v ≡ digit_next (drop 6 l) → v ≡ false → v ≡ one_number l
    unfolding one_number
    no_number v g f = rw (sym e ∙ t, sym g ∙ f) f

    pub number-ends : (v w : Bool) → v ≡ digit_next (drop 6 l) → v ≡ true → w ≡ digits_end (drop 6 l) → w ≡ one_number l
    unfolding one_number
    number-ends v w g h k = rw (sym e ∙ t, sym g ∙ h) k

  -- a word and its tab stand within the line
  pub layer-long : (u : Bool) → u ≡ starts_with LAYER l → u ≡ true → 6 ≤ length l
  layer-long u e t = go (total 6 (length l))
    where
      go : (6 ≤ length l) ⊎ (length l < 6) → 6 ≤ length l
      go (inl h) = h
      go (inr h) = clash (sym e ∙ t) (sym (too_short LAYER l h))
