-- The line that is named is the first that is not well formed.
use mathlib.Core.Path.{◌≡◌, refl, sym, ap, ◌∙◌, subst}
use mathlib.Core.List.{List, [], ◌∷◌, ◌++◌, append_assoc, append-nil}
use mathlib.Core.Option.{some}
use mathlib.Core.Bool.{Bool, true, false}
use mathlib.Core.Logic.{◌⊎◌, inl, inr}
use Prim.Native.Nat.{ℕ, ◌+◌, ◌<◌}
use native.Mathlib.Omega.{arith}
use lib.Dec.{eqb}
use lib.ListN.{length}
use borrow.Author.Tests.{eqb-true, eqb-false, eq-eqb, ne_eqb}
use Rattle.lists.specs.Lists.{All, none_left, ◌and◌}
use Rattle.lists.proofs.Tests.{clash}
use Rattle.line.specs.declared.Line.{Line}
use Rattle.line.specs.declared.Line.TheVariants.{Plan, Layer, Rectangle}
use Rattle.line.specs.Parsing.{line}
use Rattle.line.specs.Theorems.{Starts}
use Rattle.line.proofs.Theorems.{lines-hold}
use Rattle.line.proofs.Lines.{shorter}
use Rattle.text.specs.Theorems.{Others, Formed}
use Rattle.text.specs.Theorems as Text
use Rattle.checking.specs.Lines.{text_lines, in_place, well_formed, bad_from, bad_line}
use Rattle.checking.specs.Places.{first_line, after_line}
use Rattle.checking.specs.Theorems.{joined, WellFormed, next, FirstBad}
use Rattle.checking.specs.Theorems as Checking
use Rattle.checking.proofs.Lines.{first-after, front}
use Rattle.checking.proofs.Bad.{first-formed}
use Rattle.checking.proofs.Cutting.{still, Cutting, first-none, cut-first}

-- ---- lines that are all well formed
starts-on : {x : Line} {l : List ℕ} (r : List ℕ) → Starts [] x l → Starts r x (l ++ r)
starts-on {x} {l} r s =
    let f = front s in
    subst (Starts r x) (sym (ap (λ (m : List ℕ). m ++ r) f.text ∙ append_assoc f.bytes (10 ∷ []) r)) (f.starts r)

others-are : {ls : List (List ℕ)} → WellFormed false ls → (xs : List Line) × Others xs (joined ls)
others-are Checking.none = ([], Text.none)
others-are (next {first} {l} {ls} (Plan k) s e w) = clash e refl
others-are (next {first} {l} {ls} (Layer n m) s e w) = let o = others-are w in (Layer n m ∷ o.0, Text.layer (starts-on (joined ls) s) o.1)
others-are (next {first} {l} {ls} (Rectangle r) s e w) = let o = others-are w in (Rectangle r ∷ o.0, Text.rect (starts-on (joined ls) s) o.1)

formed-all : {ls : List (List ℕ)} → WellFormed true ls → 0 < length ls → Formed (joined ls)
formed-all Checking.none h = absurd (omega arith)
formed-all (next {first} {l} {ls} (Plan k) s e w) h =
    let o = others-are w in
    record { k = k; others = o.0; rest = joined ls; first = starts-on (joined ls) s; followed = o.1 }
formed-all (next {first} {l} {ls} (Layer n m) s e w) h = clash e refl
formed-all (next {first} {l} {ls} (Rectangle r) s e w) h = clash e refl

-- ---- where a line ends
pub record Bounded (t : List ℕ) : Type 0 where
  pub inside : List ℕ
  pub plain : All (λ b. b ≡ 10 → ⊥) inside
  pub ended : (first_line t ≡ inside ++ 10 ∷ []) ⊎ ((first_line t ≡ inside) × (after_line t ≡ []))

bounded : (t : List ℕ) → Bounded t
bounded [] = record { inside = []; plain = none_left; ended = inr (refl, refl) }
bounded (b ∷ t) = go (eqb b 10) refl (bounded t)
  where
    more : (i : List ℕ) → (first_line t ≡ i ++ 10 ∷ []) ⊎ ((first_line t ≡ i) × (after_line t ≡ []))
        → (b ∷ first_line t ≡ b ∷ i ++ 10 ∷ []) ⊎ ((b ∷ first_line t ≡ b ∷ i) × (after_line t ≡ []))
    more i (inl e) = inl (ap (λ (l : List ℕ). b ∷ l) e)
    more i (inr e) = inr (ap (λ (l : List ℕ). b ∷ l) e.0, e.1)

    go : (v : Bool) → eqb b 10 ≡ v → Bounded t → Bounded (b ∷ t)
    go true e r = record { inside = []; plain = none_left; ended = inl (rw e (ap (λ (c : ℕ). c ∷ []) (eqb-true b 10 e))) }
    go false e r = record { inside = b ∷ r.inside; plain = ◌and◌ (eqb-false b 10 e) r.plain; ended = rw e (more r.inside r.ended) }

-- ---- the theorem
still-first : (before : List (List ℕ)) (number : ℕ) → number ≡ 1 + length before → still true before ≡ eqb number 1
still-first [] number e = sym (eq-eqb number 1 (omega arith))
still-first (l ∷ ls) number e = sym (ne_eqb number 1 (λ f. omega arith))

pub first-bad : (t : List ℕ) → (Formed t → ⊥) → FirstBad t (bad_line t)
unfolding bad_line
first-bad t n =
    let l = bad_from true 1 (text_lines t) in
    let c = cut-first (length t) true 1 t (omega arith) in
    let b = bounded c.rest in
    let whole : l.bytes ++ after_line c.rest ≡ c.rest = ap (λ (m : List ℕ). m ++ after_line c.rest) c.bytes ∙ sym (first-after c.rest) in
    record {
      before = c.before;
      behind = after_line c.rest;
      text = c.text ∙ ap (λ (m : List ℕ). joined c.before ++ m) (sym whole);
      good = c.good;
      number = omega (arith, c.number);
      bad = λ x r s e. never x r c (subst (Starts r x) whole s) e;
      there = λ e. empty c.before (first-none c.rest (sym c.bytes ∙ e)) c.text c.good;
      inside = b.inside;
      plain = b.plain;
      ended = rw c.bytes b.ended;
    }
  where
    never : (x : Line) (r : List ℕ) (c : Cutting true 1 t (bad_from true 1 (text_lines t))) → Starts r x c.rest
        → in_place (eqb (bad_from true 1 (text_lines t)).number 1) x ≡ true → ⊥
    never x r c s e = go c.bad
      where
        read : line c.rest ≡ some (x, r)
        read = (lines-hold.reads c.rest x r).1 s

        go : (c.rest ≡ []) ⊎ (well_formed (still true c.before) (first_line c.rest) ≡ false) → ⊥
        go (inl h) = let k = shorter c.rest (x, r) read in omega (arith, ap length h)
        go (inr h) = clash (ap (λ (v : Bool). in_place v x) (still-first c.before _ c.number) ∙ e) (sym (first-formed (still true c.before) c.rest x r read) ∙ h)

    empty : (before : List (List ℕ)) {rest : List ℕ} → rest ≡ [] → t ≡ joined before ++ rest → WellFormed true before → t ≡ []
    empty [] {rest} e f w = f ∙ e
    empty (m ∷ ms) {rest} e f w =
        let g : t ≡ joined (m ∷ ms) = f ∙ ap (λ (r : List ℕ). joined (m ∷ ms) ++ r) e ∙ append-nil (joined (m ∷ ms)) in
        absurd (n (subst Formed (sym g) (formed-all w (omega arith))))
