-- Laws of well-formed markup: numbers in the holes of a text change nothing.
use mathlib.Core.Path.{◌≡◌, refl, sym, ap, ◌∙◌, subst}
use mathlib.Core.List.{List, [], ◌∷◌, ◌++◌}
use mathlib.Core.Bool.{Bool, true, false, cond}
use mathlib.Core.Logic.{inr}
use Prim.Native.Nat.{ℕ}
use native.Mathlib.Omega.{arith}
use lib.Dec.{eqb}
use lib.IntN.{ℤ}
use borrow.Author.Tests.{eqb-true}
use Rattle.lists.specs.Lists.{All, none_left, ◌and◌}
use Rattle.lists.proofs.Tests.{clash}
use Rattle.picture.specs.Templates.{piece, later, fill}
use Rattle.picture.specs.Markup.{State, start, text, tag, spaced, attribute, given, value, behind, empty, ending, end, wrong, step, scan}
use Rattle.picture.proofs.Plain.{Plain, text-plain, value-plain, numeral-plain, byte-plain}

pub scan-append : (s : State) (a b : List ℕ) → scan s (a ++ b) ≡ scan (scan s a) b
scan-append s [] b = refl
scan-append s (x ∷ a) b = scan-append (step s x) a b

-- ---- texts with holes
-- a hole may stand in a text and in a value
abbrev pub hole : State → State
hole start = wrong
hole (text opened) = text opened
hole (tag n opened) = wrong
hole (spaced n opened) = wrong
hole (attribute n opened) = wrong
hole (given n opened) = wrong
hole (behind n opened) = wrong
hole (value n opened) = value n opened
hole (empty opened) = wrong
hole (ending n opened) = wrong
hole end = wrong
hole wrong = wrong

-- a text with holes, read
abbrev pub skim : State → List ℕ → State
skim s [] = s
skim s (b ∷ t) = skim (cond (eqb b 64) (hole s) (step s b)) t

abbrev pub is_wrong : State → Bool
is_wrong start = false
is_wrong (text opened) = false
is_wrong (tag n opened) = false
is_wrong (spaced n opened) = false
is_wrong (attribute n opened) = false
is_wrong (given n opened) = false
is_wrong (behind n opened) = false
is_wrong (value n opened) = false
is_wrong (empty opened) = false
is_wrong (ending n opened) = false
is_wrong end = false
is_wrong wrong = true

skim-wrong : (t : List ℕ) → skim wrong t ≡ wrong
unfolding step
skim-wrong [] = refl
skim-wrong (b ∷ t) = go (eqb b 64) (skim-wrong t)
  where
    go : (x : Bool) → skim wrong t ≡ wrong → skim (cond x wrong wrong) t ≡ wrong
    go true h = h
    go false h = h

-- a hole with a number in it, or as it stands
hole-plain : (zs : List ℤ) → All Plain (piece 64 zs)
unfolding piece
hole-plain [] = ◌and◌ (byte-plain 64 (inr (omega arith)) refl) none_left
hole-plain (z ∷ zs) = numeral-plain z

hole-scan : (s : State) (zs : List ℤ) → is_wrong (hole s) ≡ false → scan s (piece 64 zs) ≡ hole s
hole-scan start zs h = clash refl h
hole-scan (text opened) zs h = text-plain opened _ (hole-plain zs)
hole-scan (tag n opened) zs h = clash refl h
hole-scan (spaced n opened) zs h = clash refl h
hole-scan (attribute n opened) zs h = clash refl h
hole-scan (given n opened) zs h = clash refl h
hole-scan (behind n opened) zs h = clash refl h
hole-scan (value n opened) zs h = value-plain n opened _ (hole-plain zs)
hole-scan (empty opened) zs h = clash refl h
hole-scan (ending n opened) zs h = clash refl h
hole-scan end zs h = clash refl h
hole-scan wrong zs h = clash refl h

-- what is read of a byte that is no hole
byte-scan : (s : State) (b : ℕ) (zs : List ℤ) → eqb b 64 ≡ false → scan s (piece b zs) ≡ step s b
unfolding piece
byte-scan s b [] e = refl
byte-scan s b (z ∷ zs) e = rw e

-- what is read of a text goes wrong for good
wrong-is : (x : State) → is_wrong x ≡ true → x ≡ wrong
wrong-is start f = clash f refl
wrong-is (text opened) f = clash f refl
wrong-is (tag n opened) f = clash f refl
wrong-is (spaced n opened) f = clash f refl
wrong-is (attribute n opened) f = clash f refl
wrong-is (given n opened) f = clash f refl
wrong-is (behind n opened) f = clash f refl
wrong-is (value n opened) f = clash f refl
wrong-is (empty opened) f = clash f refl
wrong-is (ending n opened) f = clash f refl
wrong-is end f = clash f refl
wrong-is wrong f = refl

never-wrong : (t : List ℕ) (x e : State) → skim x t ≡ e → is_wrong e ≡ false → is_wrong x ≡ false
never-wrong t x e h k = go (is_wrong x) refl
  where
    go : (w : Bool) → is_wrong x ≡ w → w ≡ false
    go true f = clash {t = is_wrong e} (ap is_wrong (sym h ∙ (ap (λ (y : State). skim y t) (wrong-is x f) ∙ skim-wrong t))) k
    go false f = refl

-- a text is read with any numbers as it is read with holes
pub fill-scan : (t : List ℕ) (zs : List ℤ) (s e : State) → skim s t ≡ e → is_wrong e ≡ false → scan s (fill t zs) ≡ e
fill-scan [] zs s e h k = h
fill-scan (b ∷ t) zs s e h k = scan-append s (piece b zs) (fill t (later b zs)) ∙ go (eqb b 64) refl (λ x q. fill-scan t (later b zs) x e q k)
  where
    -- what comes behind a byte
    Behind : Type 0
    Behind = (x : State) → skim x t ≡ e → scan x (fill t (later b zs)) ≡ e

    go : (x : Bool) → eqb b 64 ≡ x → Behind → scan (scan s (piece b zs)) (fill t (later b zs)) ≡ e
    go true f next =
        let q : skim (hole s) t ≡ e = subst (λ (y : Bool). skim (cond y (hole s) (step s b)) t ≡ e) f h in
        let w = never-wrong t (hole s) e q k in
        let p : scan s (piece b zs) ≡ hole s = subst (λ (c : ℕ). scan s (piece c zs) ≡ hole s) (sym (eqb-true b 64 f)) (hole-scan s zs w) in
        ap (λ (y : State). scan y (fill t (later b zs))) p ∙ next (hole s) q
    go false f next =
        let q : skim (step s b) t ≡ e = subst (λ (y : Bool). skim (cond y (hole s) (step s b)) t ≡ e) f h in
        ap (λ (y : State). scan y (fill t (later b zs))) (byte-scan s b zs f) ∙ next (step s b) q
