-- What a well formed text is: lines, spelled one behind the other. 01: "a PLAN line followed by any LAYER and RECT lines so spelled"
use Rattle.std.specs.Prelude.{List, [], ◌∷◌, Bool, true, false, ◌&&◌, ℕ}
use Rattle.line.specs.declared.Line.{Line}
use Rattle.line.specs.declared.Line.TheVariants.{Plan, Layer, Rectangle}
use Rattle.line.specs.Lines.{spell_to, short_line}

-- the bytes of lines, one behind the other
abbrev pub spell : List Line → List ℕ
spell [] = []
spell (l ∷ ls) = spell_to l (spell ls)

-- a LAYER or RECT line
abbrev pub inner : Line → Bool
inner (Plan k) = false
inner (Layer n m) = true
inner (Rectangle b) = true

-- LAYER and RECT lines only
abbrev pub all_inner : List Line → Bool
all_inner [] = true
all_inner (l ∷ ls) = inner l && all_inner ls

-- 01: "a PLAN line followed by any LAYER and RECT lines"
abbrev pub headed : List Line → Bool
headed [] = false
headed (Plan k ∷ ls) = all_inner ls
headed (Layer n m ∷ ls) = false
headed (Rectangle b ∷ ls) = false

-- lines of short numbers
abbrev pub all_short : List Line → Bool
all_short [] = true
all_short (l ∷ ls) = short_line l && all_short ls
