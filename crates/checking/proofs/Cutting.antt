-- A text is cut before the first line that is not well formed.
use mathlib.Core.Path.{◌≡◌, refl, sym, ap, ◌∙◌}
use mathlib.Core.List.{List, [], ◌∷◌, ◌++◌, append_assoc}
use mathlib.Core.Option.{none, some}
use mathlib.Core.Bool.{Bool, true, false, cond}
use mathlib.Core.Logic.{◌⊎◌, inl, inr}
use Prim.Native.Nat.{ℕ, zero, suc, ◌+◌, ◌≤◌, ◌<◌}
use native.Mathlib.Omega.{arith}
use lib.Dec.{eqb}
use lib.ListN.{length, length-append}
use Rattle.lists.proofs.Tests.{clash}
use Rattle.decimal.specs.Reading.{Reading}
use Rattle.line.specs.declared.Line.{Line}
use Rattle.line.specs.Parsing.{line}
use Rattle.line.proofs.Theorems.{lines-hold}
use Rattle.checking.specs.Lines.{text_lines, in_place, reads_in_place, well_formed, NumberedLine, bad_from}
use Rattle.checking.specs.Places.{first_line, after_line}
use Rattle.checking.specs.Theorems.{joined, WellFormed, next}
use Rattle.checking.specs.Theorems as Checking
use Rattle.checking.proofs.Lines.{first-after, cut, whole}
use Rattle.checking.proofs.Bad.{passes, stops}

-- ---- the text cut before the line
-- the line that comes behind these is the first of the text
abbrev pub still : (first : Bool) → List (List ℕ) → Bool
still first [] = first
still first (l ∷ ls) = false

pub record Cutting (first : Bool) (n : ℕ) (t : List ℕ) (b : NumberedLine) : Type 0 where
  pub before : List (List ℕ)
  pub rest : List ℕ
  pub text : t ≡ joined before ++ rest
  pub good : WellFormed first before
  pub number : b.number ≡ n + length before
  pub bytes : b.bytes ≡ first_line rest
  pub bad : (rest ≡ []) ⊎ (well_formed (still first before) (first_line rest) ≡ false)

-- what a well formed first line is
formed-line : (first : Bool) (l : List ℕ) → well_formed first l ≡ true → (p : Line × List ℕ) × (line l ≡ some p) × (in_place first p.0 ≡ true)
unfolding well_formed
formed-line first l e = go (line l) refl e
  where
    go : (o : Reading Line) → line l ≡ o → reads_in_place first o ≡ true → (p : Line × List ℕ) × (line l ≡ some p) × (in_place first p.0 ≡ true)
    go none x y = clash y refl
    go (some p) x y = (p, x, y)

-- one line more before the cut
cut-more : (first : Bool) (n : ℕ) (t : List ℕ) → 0 < length t → well_formed first (first_line t) ≡ true
    → Cutting false (suc n) (after_line t) (bad_from false (suc n) (text_lines (after_line t))) → Cutting first n t (bad_from first n (text_lines t))
cut-more first n t h w c =
    let f = formed-line first (first_line t) w in
    let p = f.0 in
    let s : line (first_line t) ≡ some (p.0, []) = (cut t p.0 (after_line t) (whole t p f.1)).first in
    rw (passes first n t h w)
    (record {
      before = first_line t ∷ c.before;
      rest = c.rest;
      text = first-after t ∙ ap (λ (l : List ℕ). first_line t ++ l) c.text ∙ sym (append_assoc (first_line t) (joined c.before) c.rest);
      good = next p.0 ((lines-hold.reads (first_line t) p.0 []).0 s) f.2 c.good;
      number = omega (arith, c.number);
      bytes = c.bytes;
      bad = later c.before c.rest c.bad;
    })
  where
    later : (before : List (List ℕ)) (rest : List ℕ) → (rest ≡ []) ⊎ (well_formed (still false before) (first_line rest) ≡ false)
        → (rest ≡ []) ⊎ (well_formed false (first_line rest) ≡ false)
    later [] rest x = x
    later (l ∷ ls) rest x = x

-- a text that is not empty has a first line
pub first_some : (b : ℕ) (t : List ℕ) → 0 < length (first_line (b ∷ t))
first_some b t = go (eqb b 10)
  where
    go : (e : Bool) → 0 < length (cond e (b ∷ []) (b ∷ first_line t))
    go true = omega arith
    go false = omega arith

pub first-none : (t : List ℕ) → first_line t ≡ [] → t ≡ []
first-none [] e = refl
first-none (b ∷ t) e = absurd (omega (arith, first_some b t, ap length e))

after-shorter : (t : List ℕ) → 0 < length t → length (after_line t) < length t
after-shorter [] h = absurd (omega arith)
after-shorter (b ∷ t) h = omega (arith, ap length (first-after (b ∷ t)), length-append (first_line (b ∷ t)) (after_line (b ∷ t)), first_some b t)

cut_by : (first : Bool) (n : ℕ) (t : List ℕ) → ((m : ℕ) (l : List ℕ) → length l < length t → Cutting false m l (bad_from false m (text_lines l)))
    → Cutting first n t (bad_from first n (text_lines t))
cut_by first n [] rec = record { before = []; rest = []; text = refl; good = Checking.none; number = omega arith; bytes = refl; bad = inl refl }
cut_by first n (b ∷ t) rec = go (well_formed first (first_line (b ∷ t))) refl
  where
    go : (v : Bool) → well_formed first (first_line (b ∷ t)) ≡ v → Cutting first n (b ∷ t) (bad_from first n (text_lines (b ∷ t)))
    go false w =
        rw (stops first n (b ∷ t) (omega arith) w)
        (record { before = []; rest = b ∷ t; text = refl; good = Checking.none; number = omega arith; bytes = refl; bad = inr w })
    go true w = cut-more first n (b ∷ t) (omega arith) w (rec (suc n) (after_line (b ∷ t)) (after-shorter (b ∷ t) (omega arith)))

pub cut-first : (f : ℕ) (first : Bool) (n : ℕ) (t : List ℕ) → length t ≤ f → Cutting first n t (bad_from first n (text_lines t))
cut-first zero first n t h = cut_by first n t (λ m l k. absurd (omega arith))
cut-first (suc f) first n t h = cut_by first n t (λ m l k. cut-first f false m l (omega arith))
