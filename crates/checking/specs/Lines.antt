-- The lines of any text, each with its number, and the first of them that is not well formed.
use Rattle.std.specs.Prelude.{List, [], ◌∷◌, Bool, true, false, not, cond, ℕ, suc, eqb}
use Rattle.std.proofs.Math.Option.{none, some}
use Rattle.decimal.specs.Reading.{Reading}
use Rattle.line.specs.declared.Line.{Line}
use Rattle.line.specs.declared.Line.TheVariants.{Plan, Layer, Rectangle}
use Rattle.line.specs.Parsing.{line}

-- a byte in front of the first line
abbrev pub in_front : ℕ → List (List ℕ) → List (List ℕ)
in_front b [] = (b ∷ []) ∷ []
in_front b (l ∷ ls) = (b ∷ l) ∷ ls

-- the lines of a text, each with the byte 10 that ends it; the last one may have none
abbrev pub text_lines : List ℕ → List (List ℕ)
text_lines [] = []
text_lines (b ∷ t) = cond (eqb b 10) ((b ∷ []) ∷ text_lines t) (in_front b (text_lines t))

-- 01: "One PLAN line comes first", and LAYER and RECT lines stand behind it
abbrev pub in_place : (first : Bool) → Line → Bool
in_place first (Plan k) = first
in_place first (Layer n m) = not first
in_place first (Rectangle r) = not first

-- a line was read, and it may stand there
abbrev pub reads_in_place : (first : Bool) → Reading Line → Bool
reads_in_place first none = false
reads_in_place first (some p) = in_place first p.0

-- these bytes are a well formed line, which may stand there
unfoldable pub well_formed : (first : Bool) → List ℕ → Bool
well_formed first bytes = reads_in_place first (line bytes)

-- a line of a text: its number from 1, and its bytes
pub record NumberedLine : Type 0 where
  pub number : ℕ
  pub bytes : List ℕ

-- the first line, from the one with this number on, that is not well formed; where all are, the number behind the last, and no bytes
abbrev pub bad_from : (first : Bool) (number : ℕ) → List (List ℕ) → NumberedLine
bad_from first number [] = record { number = number; bytes = [] }
bad_from first number (l ∷ ls) = cond (well_formed first l) (bad_from false (suc number) ls) (record { number = number; bytes = l })

-- the first line of a text that is not well formed; an empty text lacks its line 1
unfoldable pub bad_line : List ℕ → NumberedLine
bad_line t = bad_from true 1 (text_lines t)
