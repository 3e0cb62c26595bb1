-- The lines of a plan text, as data and spelled. 01: "Bytes in lines, each ended by byte 10, fields parted by byte 9"
use Rattle.std.specs.Prelude.{List, [], ◌∷◌, ◌++◌, Bool, ◌&&◌, ℕ, ℤ}
use Rattle.geometry.specs.declared.Rect.{Rect}
use Rattle.line.specs.declared.Line.{Line}
use Rattle.line.specs.declared.Line.TheVariants.{Plan, Layer, Rectangle}
use Rattle.decimal.specs.Numerals.{numeral, short}

-- the word PLAN and its tab
abbrev pub PLAN : List ℕ
PLAN = 80 ∷ 76 ∷ 65 ∷ 78 ∷ 9 ∷ []

-- the word LAYER and its tab
abbrev pub LAYER : List ℕ
LAYER = 76 ∷ 65 ∷ 89 ∷ 69 ∷ 82 ∷ 9 ∷ []

-- the word RECT and its tab
abbrev pub RECT : List ℕ
RECT = 82 ∷ 69 ∷ 67 ∷ 84 ∷ 9 ∷ []

-- a number, the byte that ends its field, and the bytes behind
abbrev pub put_field : ℤ → ℕ → List ℕ → List ℕ
put_field z e r = numeral z ++ e ∷ r

-- the four fields of a RECT line, and the bytes behind
abbrev pub put_rect : Rect → List ℕ → List ℕ
put_rect b r = put_field b.left 9 (put_field b.bottom 9 (put_field b.right 9 (put_field b.top 10 r)))

-- a line's bytes in front of the bytes behind it
-- 02, Q-4: a margin "written as a second number on its LAYER line"
abbrev pub spell_to : Line → List ℕ → List ℕ
spell_to (Plan k) r = PLAN ++ put_field k 10 r
spell_to (Layer n m) r = LAYER ++ put_field n 9 (put_field m 10 r)
spell_to (Rectangle b) r = RECT ++ put_rect b r

-- a rectangle of short numbers
abbrev pub short_rect : Rect → Bool
short_rect b = short b.left && (short b.bottom && (short b.right && short b.top))

-- a line of short numbers
abbrev pub short_line : Line → Bool
short_line (Plan k) = short k
short_line (Layer n m) = short n && short m
short_line (Rectangle b) = short_rect b
