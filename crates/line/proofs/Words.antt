-- Laws of words that are compared at a place of a text, and of the byte that ends a field.
use mathlib.Core.Path.{◌≡◌, refl, sym, ap, ◌∙◌}
use mathlib.Core.List.{List, [], ◌∷◌}
use mathlib.Core.Option.{none, some}
use mathlib.Core.Bool.{Bool, true, false, cond, ◌&&◌}
use mathlib.Core.Logic.{◌⊎◌, inl, inr}
use Prim.Native.Nat.{ℕ, ◌+◌, ◌≤◌, ◌<◌}
use native.Mathlib.Omega.{arith}
use lib.Dec.{eqb}
use lib.Pointwise.{pointwise}
use lib.ListN.{length, get_or, take, drop, drop_of_length-le, get_or-eq_default}
use borrow.Author.Tests.{eqb-true, eq-eqb}
use Rattle.lists.proofs.Tests.{clash, same_test, total}
use Rattle.decimal.specs.declared.Kind.{Kind}
use Rattle.decimal.specs.declared.Kind.TheVariants.{Minus, Zero, Digit, Tab, End, Other}
use Rattle.decimal.specs.inner.Bytes.{kind_of}
use Rattle.decimal.proofs.Bytes.{Is, kind-is}
use Rattle.decimal.proofs.Places.{at_byte, inside}
use Rattle.line.specs.Parsing.{behind}
use Rattle.line.specs.Places.{starts_with, Alone}

-- ---- words

pub behind-is : (w t : List ℕ) → behind w t ≡ cond (starts_with w t) (some (drop (length w) t)) none
behind-is [] t = refl
behind-is (b ∷ w) [] = refl
behind-is (b ∷ w) (a ∷ t) = go (eqb b a) (behind-is w t)
  where
    go : (e : Bool) → behind w t ≡ cond (starts_with w t) (some (drop (length w) t)) none
        → cond e (behind w t) none ≡ cond (e && starts_with w t) (some (drop (length w) t)) none
    go true h = h
    go false h = refl

pub too_short : (w t : List ℕ) → length t < length w → false ≡ starts_with w t
too_short [] t h = absurd (omega arith)
too_short (b ∷ w) [] h = refl
too_short (b ∷ w) (a ∷ t) h = go (eqb b a) (too_short w t (omega arith))
  where
    go : (e : Bool) → false ≡ starts_with w t → false ≡ (e && starts_with w t)
    go true k = k
    go false k = refl

-- the library's test of the start of a slice
pub starts-same : (w t : List ℕ) → pointwise eqb w (take (length w) t) ≡ starts_with w t
starts-same [] t = refl
starts-same (b ∷ w) [] = refl
starts-same (b ∷ w) (a ∷ t) = ap (λ (v : Bool). eqb b a && v) (starts-same w t)

-- ---- the byte that ends a field
pub tab-alone : Alone Tab 9
tab-alone b = (λ e. rw e at (kind-is b), λ e. rw e (unfold kind_of in refl))

pub end-alone : Alone End 10
end-alone b = (λ e. rw e at (kind-is b), λ e. rw e (unfold kind_of in refl))

-- `Other` is no byte's alone, so where a byte of a kind that is stands, the text goes on
pub alone-inside : (k : Kind) (e : ℕ) → Alone k e → (s : List ℕ) (i : ℕ) → kind_of (get_or s i 0) ≡ k → i < length s
unfolding kind_of
alone-inside k e a s i h = go (total (length s) i)
  where
    go : (length s ≤ i) ⊎ (i < length s) → i < length s
    go (inl l) =
        let other : k ≡ Other = sym h ∙ rw (get_or-eq_default s 0 {n = i} l) refl in
        absurd (omega (arith, (a 1).0 (sym other), (a 2).0 (sym other)))
    go (inr l) = l

pub behind-byte : (e : ℕ) (s : List ℕ) (i : ℕ) → i < length s → behind (e ∷ []) (drop i s) ≡ cond (eqb e (get_or s i 0)) (some (drop (i + 1) s)) none
behind-byte e s i h = rw (at_byte s i h)

pub behind-past : (e : ℕ) (s : List ℕ) (i : ℕ) → length s ≤ i → behind (e ∷ []) (drop i s) ≡ none
behind-past e s i h = rw (drop_of_length-le s {i = i} h)
