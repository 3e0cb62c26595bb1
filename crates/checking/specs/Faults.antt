-- What is wrong with the lines of a well formed text that is no plan's (01, cause 10), each thing with its line.
use Rattle.std.specs.Prelude.{List, [], ◌∷◌, ◌++◌, Bool, true, false, cond, ◌&&◌, ◌||◌, ℕ, suc, ◌+◌, ◌-◌, eqb, ltb, ℤ, pos, nat_abs}
use Rattle.std.specs.Int.Signed.{le_z}
use Rattle.geometry.specs.declared.Rect.{Rect}
use Rattle.geometry.specs.Rectangles.{reach, between, most_margin}
use Rattle.plan.specs.Limits.{most_layers, most_size}
use Rattle.line.specs.declared.Line.{Line}
use Rattle.line.specs.declared.Line.TheVariants.{Plan, Layer, Rectangle}
use Rattle.outcomes.specs.Texts.{ascii}
use Rattle.checking.specs.declared.Counts.{Counts}

-- a thing that is wrong: the number of its line, and words
pub record Note : Type 0 where
  pub number : ℕ
  pub words : List ℕ

-- a thing, unless its test is passed
abbrev pub unless_note : Bool → (number : ℕ) → (words : List ℕ) → List Note
unless_note true number words = []
unless_note false number words = record { number = number; words = words } ∷ []

-- z is from `low` to `high`
unfoldable pub is_from_to : (low high z : ℤ) → Bool
is_from_to low high z = le_z low z && le_z z high

-- a number, or 0 where it is below 0
unfoldable pub size_of : ℤ → ℕ
size_of z = cond (le_z (pos 0) z) (nat_abs z) 0

-- ---- what is counted, line by line: the last LAYER line's number, 0 before any; how many of its RECT lines are still due; and whether there was one too
-- many
abbrev pub no_counts : Counts
no_counts = record { line = 0; due = 0; over = false }

-- with a RECT line more
abbrev pub count_rect : Counts → Counts
count_rect c = record { line = c.line; due = c.due - 1; over = eqb c.due 0 }

-- with a line more
abbrev pub counted_with : (number : ℕ) → Counts → Line → Counts
counted_with number c (Plan k) = c
counted_with number c (Layer n m) = record { line = number; due = size_of n; over = false }
counted_with number c (Rectangle r) = count_rect c

-- 1 of a LAYER line, 0 of another
abbrev pub one_if_layer : Line → ℕ
one_if_layer (Plan k) = 0
one_if_layer (Layer n m) = 1
one_if_layer (Rectangle r) = 0

-- how many LAYER lines there are
abbrev pub layer_lines : List Line → ℕ
layer_lines [] = 0
layer_lines (l ∷ ls) = one_if_layer l + layer_lines ls

-- ---- the things
-- a LAYER line that has not all its RECT lines
abbrev pub missing : Counts → List Note
missing c = unless_note (eqb c.due 0) c.line (ascii "fewer RECT lines than this LAYER line says")

-- what is wrong with the numbers of a LAYER line. 01: "n_j rectangles, 0 to 512"; 02, Q-4: "a margin in millimetres, 0 to 50,000"
abbrev pub layer_faults : (number : ℕ) → (n m : ℤ) → List Note
layer_faults number n m =
    unless_note (is_from_to (pos 0) (pos most_size) n) number (ascii "a layer of more than 512 rectangles, or fewer than 0")
    ++ unless_note (is_from_to (pos 0) (pos most_margin) m) number (ascii "a margin above 50000 or below 0")

-- why a RECT line is too many
unfoldable pub surplus : Counts → List ℕ
surplus c = cond (eqb c.line 0) (ascii "a RECT line before any LAYER line") (ascii "more RECT lines than the LAYER line says")

-- all four coordinates are in range. 02, Q-13: "Coordinates widen to 10,000,000 either way of 0"
unfoldable pub in_reach : Rect → Bool
in_reach r = between reach r.left && between reach r.bottom && between reach r.right && between reach r.top

-- what is wrong with the sides of a rectangle. 01, 4: "a coordinate out of range, left > right or bottom > top"
abbrev pub side_faults : (number : ℕ) → Rect → List Note
side_faults number r =
    unless_note (le_z r.left r.right) number (ascii "left above right")
    ++ (unless_note (le_z r.bottom r.top) number (ascii "bottom above top")
    ++ unless_note (in_reach r) number (ascii "a coordinate above 10000000 or below -10000000"))

-- what is wrong with a RECT line: it is one too many, which is told of the first alone, or its sides are wrong
abbrev pub rect_faults : (number : ℕ) → Counts → Rect → List Note
rect_faults number c r = unless_note (c.over || ltb 0 c.due) number (surplus c) ++ side_faults number r

-- what is wrong with a line behind the PLAN line
abbrev pub line_faults : (number : ℕ) → Counts → Line → List Note
line_faults number c (Plan k) = []
line_faults number c (Layer n m) = missing c ++ layer_faults number n m
line_faults number c (Rectangle r) = rect_faults number c r

-- what is wrong with all lines behind the PLAN line, from the one with this number on
abbrev pub faults_from : (number : ℕ) → Counts → List Line → List Note
faults_from number c [] = missing c
faults_from number c (l ∷ ls) = line_faults number c l ++ faults_from (suc number) (counted_with number c l) ls

-- what is wrong with a PLAN line that says k, before so many LAYER lines. 01: "k layers, 2 to 6"
abbrev pub plan_faults : ℤ → (layers : ℕ) → List Note
plan_faults k layers =
    unless_note (is_from_to (pos 2) (pos most_layers) k) 1 (ascii "a plan of fewer than 2 layers, or more than 6")
    ++ unless_note (eqb (size_of k) layers) 1 (ascii "the PLAN line says another number of LAYER lines")

-- what is wrong with all lines of a well formed text, the PLAN line first
abbrev pub faults_of : List Line → List Note
faults_of [] = []
faults_of (Plan k ∷ ls) = plan_faults k (layer_lines ls) ++ faults_from 2 no_counts ls
faults_of (Layer n m ∷ ls) = []
faults_of (Rectangle r ∷ ls) = []
