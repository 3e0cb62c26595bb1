-- A line is read at the start of a text exactly where the bytes up to the first line end are that line.
use mathlib.Core.Path.{◌≡◌, refl, sym, ap, ◌∙◌}
use mathlib.Core.List.{List, [], ◌∷◌, ◌++◌, append_assoc}
use mathlib.Core.Option.{none, some, none-ne-some}
use mathlib.Core.Bool.{Bool, true, false, cond}
use Prim.Native.Nat.{ℕ, ◌≤◌}
use native.Mathlib.Omega.{arith}
use lib.Dec.{eqb}
use lib.IntN.{ℤ}
use borrow.Author.Tests.{ne_eqb}
use Rattle.lists.specs.Lists.{All, none_left, ◌and◌}
use Rattle.lists.proofs.Lists.{all-++}
use Rattle.decimal.specs.Reading.{Reading}
use Rattle.decimal.specs.Theorems.{DigitByte, Magnitude, Spells, nought, plain, minus}
use Rattle.line.specs.declared.Line.{Line}
use Rattle.line.specs.Parsing.{line}
use Rattle.line.specs.Theorems.{Starts, plan, layer, rect}
use Rattle.line.proofs.Theorems.{lines-hold}
use Rattle.checking.specs.Lines.{in_front, text_lines}
use Rattle.checking.specs.Places.{first_line, after_line}

-- a byte that ends no line
abbrev Inside : ℕ → Type 0
Inside b = eqb b 10 ≡ false

-- ---- bytes without a line end
infixr 20 ◌also◌
◌also◌ : {b : ℕ} {l : List ℕ} → Inside b → All Inside l → All Inside (b ∷ l)
p also ps = ◌and◌ p ps

digit-inside : (b : ℕ) → 48 ≤ b → Inside b
digit-inside b h = ne_eqb b 10 (λ e. omega arith)

digits-inside : {l : List ℕ} → All DigitByte l → All Inside l
digits-inside none_left = none_left
digits-inside (◌and◌ {a} p ps) = digit-inside a p.0 also digits-inside ps

magnitude-inside : {m n : ℕ} {t : List ℕ} → Magnitude m t n → All Inside t
magnitude-inside p = rw p.text (digit-inside p.first (omega (arith, p.low)) also digits-inside p.digits)

spells-inside : {t : List ℕ} {z : ℤ} → Spells t z → All Inside t
spells-inside (nought e f) = rw e (refl also none_left)
spells-inside (plain n m e) = magnitude-inside m
spells-inside (minus n u e m f) = rw e (refl also magnitude-inside m)

-- ---- a line's bytes before its end
pub record Front (l : Line) (rest t : List ℕ) : Type 0 where
  pub bytes : List ℕ
  pub inside : All Inside bytes
  pub text : t ≡ bytes ++ 10 ∷ rest
  pub starts : (r : List ℕ) → Starts r l (bytes ++ 10 ∷ r)

pub front : {l : Line} {rest t : List ℕ} → Starts rest l t → Front l rest t
front {l} {rest} {t} (plan {a} {k} p) =
    record { bytes = 80 ∷ 76 ∷ 65 ∷ 78 ∷ 9 ∷ a; inside = refl also refl also refl also refl also refl also spells-inside p; text = refl; starts = λ r. plan p }
front {l} {rest} {t} (layer {a} {b} {n} {m} p q) =
    record {
      bytes = 76 ∷ 65 ∷ 89 ∷ 69 ∷ 82 ∷ 9 ∷ (a ++ 9 ∷ b);
      inside = refl also refl also refl also refl also refl also refl also all-++ (spells-inside p) (refl also spells-inside q);
      text = simp append_assoc;
      starts = λ r. simp append_assoc (layer p q);
    }
front {l} {rest} {t} (rect {a} {b} {c} {d} {r} p q u v) =
    record {
      bytes = 82 ∷ 69 ∷ 67 ∷ 84 ∷ 9 ∷ (a ++ 9 ∷ (b ++ 9 ∷ (c ++ 9 ∷ d)));
      inside =
          refl also refl also refl also refl also refl also
          all-++ (spells-inside p) (refl also all-++ (spells-inside q) (refl also all-++ (spells-inside u) (refl also spells-inside v)));
      text = simp append_assoc;
      starts = λ w. simp append_assoc (rect p q u v);
    }

-- ---- a text's first line, and what is behind it
first_of : {l : List ℕ} → All Inside l → (r : List ℕ) → (first_line (l ++ 10 ∷ r) ≡ l ++ 10 ∷ []) × (after_line (l ++ 10 ∷ r) ≡ r)
first_of none_left r = (refl, refl)
first_of (◌and◌ {a} {l} p ps) r = let i = first_of ps r in (rw p (ap (λ (m : List ℕ). a ∷ m) i.0), rw p i.1)

pub first-after : (t : List ℕ) → t ≡ first_line t ++ after_line t
first-after [] = refl
first-after (b ∷ t) = go (eqb b 10) (first-after t)
  where
    go : (e : Bool) → t ≡ first_line t ++ after_line t → b ∷ t ≡ cond e (b ∷ []) (b ∷ first_line t) ++ cond e t (after_line t)
    go true h = refl
    go false h = ap (λ (m : List ℕ). b ∷ m) h

-- the lines of a text are its first and those behind it
pub lines-first : (b : ℕ) (t : List ℕ) → text_lines (b ∷ t) ≡ first_line (b ∷ t) ∷ text_lines (after_line (b ∷ t))
lines-first b [] = go (eqb b 10)
  where
    go : (e : Bool) → cond e ((b ∷ []) ∷ []) ((b ∷ []) ∷ []) ≡ cond e (b ∷ []) (b ∷ []) ∷ text_lines (cond e [] [])
    go true = refl
    go false = refl
lines-first b (c ∷ t) = go (eqb b 10) (lines-first c t)
  where
    go : (e : Bool) → text_lines (c ∷ t) ≡ first_line (c ∷ t) ∷ text_lines (after_line (c ∷ t))
        → cond e ((b ∷ []) ∷ text_lines (c ∷ t)) (in_front b (text_lines (c ∷ t))) ≡ cond e (b ∷ []) (b ∷ first_line (c ∷ t)) ∷ text_lines (cond e (c ∷ t) (after_line (c ∷ t)))
    go true h = refl
    go false h = ap (in_front b) h

-- ---- a line read at the start of a text is its first line
pub record Cut (t : List ℕ) (l : Line) (rest : List ℕ) : Type 0 where
  pub first : line (first_line t) ≡ some (l, [])
  pub after : after_line t ≡ rest

pub cut : (t : List ℕ) (l : Line) (rest : List ℕ) → line t ≡ some (l, rest) → Cut t l rest
cut t l rest e =
    let f = front ((lines-hold.reads t l rest).0 e) in
    let i = first_of f.inside rest in
    record {
      first = ap line (ap first_line f.text ∙ i.0) ∙ (lines-hold.reads (f.bytes ++ 10 ∷ []) l []).1 (f.starts []);
      after = ap after_line f.text ∙ i.1;
    }

-- a first line that is a line is read at the start of the text
pub whole : (t : List ℕ) (p : Line × List ℕ) → line (first_line t) ≡ some p → line t ≡ some (p.0, after_line t)
whole t p h =
    let f = front ((lines-hold.reads (first_line t) p.0 p.1).0 h) in
    let x : t ≡ f.bytes ++ 10 ∷ (p.1 ++ after_line t)
    = first-after t ∙ ap (λ (m : List ℕ). m ++ after_line t) f.text ∙ append_assoc f.bytes (10 ∷ p.1) (after_line t) in
    let r : line t ≡ some (p.0, p.1 ++ after_line t)
    = ap line x ∙ (lines-hold.reads (f.bytes ++ 10 ∷ (p.1 ++ after_line t)) p.0 (p.1 ++ after_line t)).1 (f.starts (p.1 ++ after_line t)) in
    r ∙ ap (λ (m : List ℕ). some (p.0, m)) (sym (cut t p.0 (p.1 ++ after_line t) r).after)

-- where none is read, the first line is none
pub uncut : (t : List ℕ) → line t ≡ none → line (first_line t) ≡ none
uncut t e = go (line (first_line t)) refl
  where
    go : (o : Reading Line) → line (first_line t) ≡ o → o ≡ none
    go none h = refl
    go (some p) h = absurd (none-ne-some (p.0, after_line t) (sym e ∙ whole t p h))
