-- Laws of the first line that is not well formed: line after line, as the code seeks it.
use mathlib.Core.Path.{◌≡◌, refl, sym, ap, ◌∙◌}
use mathlib.Core.List.{List, [], ◌∷◌}
use mathlib.Core.Option.{none, some}
use mathlib.Core.Bool.{Bool, true, false}
use Prim.Native.Nat.{ℕ, suc, ◌+◌, ◌≤◌, ◌<◌}
use native.Mathlib.Omega.{arith}
use native.Mathlib.Numerals.{add-one}
use lib.ListN.{length, drop, length-drop, drop_of_length-le}
use Rattle.line.specs.declared.Line.{Line}
use Rattle.line.specs.Parsing.{line}
use Rattle.line.specs.Places.{Line-at}
use Rattle.line.proofs.Lines.{shorter}
use Rattle.checking.specs.Lines.{text_lines, in_place, well_formed, bad_from, bad_line}
use Rattle.checking.specs.Places.{first_line, after_line, Spotted}
use Rattle.checking.proofs.Lines.{cut, uncut, lines-first}

-- a text that is not empty has a first line, and it decides
module _ (first : Bool) (n : ℕ) where
  pub passes : (t : List ℕ) → 0 < length t → well_formed first (first_line t) ≡ true → bad_from first n (text_lines t) ≡ bad_from false (suc n) (text_lines (after_line t))
  passes [] h w = absurd (omega arith)
  passes (b ∷ t) h w = rw (lines-first b t, w)

  pub stops : (t : List ℕ) → 0 < length t → well_formed first (first_line t) ≡ false → bad_from first n (text_lines t) ≡ record { number = n; bytes = first_line t }
  stops [] h w = absurd (omega arith)
  stops (b ∷ t) h w = rw (lines-first b t, w)

-- the first line is well formed where the line that is read may stand there
pub first-formed : (first : Bool) (t : List ℕ) (l : Line) (rest : List ℕ) → line t ≡ some (l, rest) → well_formed first (first_line t) ≡ in_place first l
unfolding well_formed
first-formed first t l rest e = rw (cut t l rest e).first

pub none-formed : (first : Bool) (t : List ℕ) → line t ≡ none → well_formed first (first_line t) ≡ false
unfolding well_formed
none-formed first t e = rw (uncut t e)

-- the loop: what is left, from a place and a number on, has the first line that is not well formed
pub record Seeking (s : List ℕ) (at number : ℕ) (first : Bool) : Type 0 where
  pub gives : bad_from first number (text_lines (drop at s)) ≡ bad_line s
  pub inside : at ≤ length s
  pub few : number ≤ suc at

pub seeking-start : (s : List ℕ) → Seeking s 0 1 true
unfolding bad_line
seeking-start s = record { gives = refl; inside = omega arith; few = omega arith }

module _ (s : List ℕ) (at number : ℕ) (first : Bool) (k : Seeking s at number first) where
  here : bad_from first number (text_lines (drop at s)) ≡ record { number = number; bytes = first_line (drop at s) } → Spotted s (record { number = number; at = at })
  here e = record { line = sym k.gives ∙ e; inside = k.inside; few = k.few }

  -- the text is at its end
  pub seeking-end : length s ≤ at → Spotted s (record { number = number; at = at })
  seeking-end h = here (rw (drop_of_length-le s {i = at} h))

  -- no line is there
  pub seeking-none : at < length s → line (drop at s) ≡ none → Spotted s (record { number = number; at = at })
  seeking-none h e = here (stops first number (drop at s) (simp length-drop (omega arith)) (none-formed first (drop at s) e))

  module _ (l : Line) (i : ℕ) (f : Line-at s at l i) where
    long : 0 < length (drop at s)
    long = let w = shorter (drop at s) (l, drop i s) f.reads in omega arith

    -- one that may not stand there
    pub seeking-other : in_place first l ≡ false → Spotted s (record { number = number; at = at })
    seeking-other e = here (stops first number (drop at s) long (first-formed first (drop at s) l (drop i s) f.reads ∙ e))

    -- one that may
    pub seeking-more : in_place first l ≡ true → Seeking s i (number + 1) false
    seeking-more e =
        let w = first-formed first (drop at s) l (drop i s) f.reads ∙ e in
        record {
          gives = rw add-one (ap (λ (m : List ℕ). bad_from false (suc number) (text_lines m)) (sym (cut (drop at s) l (drop i s) f.reads).after) ∙ sym (passes first number (drop at s) long w) ∙ k.gives);
          inside = f.inside;
          few = omega (arith, k.few, f.after);
        }
