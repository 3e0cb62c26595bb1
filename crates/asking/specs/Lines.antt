-- The lines of the commands. Fields are tabbed, each line ends in byte 10, and numbers are spelled as in the report.
use mathlib.Core.List.{List, [], ◌∷◌, ◌++◌, flat_map}
use Rattle.std.specs.Prelude.{ℕ, suc, ◌*◌, ℤ, length, get_or, Option, Some, None}
use Rattle.lists.specs.Lists.{each}
use Rattle.decimal.specs.Numerals.{decimal}
use Rattle.plan.specs.declared.Shape.{Shape}
use Rattle.plan.specs.Plan.{Layer, layers}
use Rattle.join.specs.Join.{area_in, kind_in}
use Rattle.nearest.specs.declared.Near.{Near}
use Rattle.nearest.specs.Nearest.{nothing}
use Rattle.printing.specs.Lines.{line_of, row_fields, square_metres, TOTAL}
use Rattle.outcomes.specs.Texts.{ascii}
use Rattle.asking.specs.Roots.{root}
use Rattle.asking.specs.Pairs.{two_shape, two_cells, PairRow, pair_rows}

-- ---- `apart`
-- the rectangles share a point
unfoldable pub share_line : List ℕ
share_line = line_of (ascii "SHARE") []

-- the first two layers whose rectangles do not meet, from 1
unfoldable pub apart_line : (lower higher : ℕ) → List ℕ
apart_line lower higher = line_of (ascii "APART") (decimal lower ∷ decimal higher ∷ [])

-- ---- `nearest`
-- a gap in millimetres with two decimals, rounded down: the whole square root of 10,000 times the squared gap is a count of hundredths, printed as the
-- report prints hundredths of a square metre
abbrev pub millimetres : (gap : ℕ) → List ℕ
millimetres gap = square_metres (root (10000 * gap))

-- what lies nearest in a layer, numbered from 1: its place, the squared gap, the gap; or that there is nothing
unfoldable pub near_line : (layer : ℕ) → Option Near → List ℕ
near_line layer (Some e) = line_of (ascii "NEAR") (decimal layer ∷ decimal e.place ∷ decimal e.gap ∷ millimetres e.gap ∷ [])
near_line layer None = line_of (ascii "NONE") (decimal layer ∷ [])

-- ... in each of the first k layers
abbrev pub near_lines : (k : ℕ) → List (Option Near) → List ℕ
near_lines k es = each (λ j. near_line (suc j) (get_or es j nothing)) 0 k

-- ---- `pairs`
-- a row of two layers: both layers, from 1, both places, the area of their common ground in square millimetres, its kind
unfoldable pub pair_line : List Layer → PairRow → List ℕ
pair_line ls p =
    line_of (ascii "PAIR") (decimal (suc p.lower) ∷ row_fields (suc p.higher) p.row (area_in ls p.row) (kind_in ls p.row))

-- ... of a plan
abbrev pub two_line : Shape → List ℤ → PairRow → List ℕ
two_line s cells p = pair_line (layers (two_shape s p.lower p.higher) (two_cells s cells p.lower p.higher)) p

-- how many there are
unfoldable pub count_line : ℕ → List ℕ
count_line n = line_of TOTAL (decimal n ∷ [])

-- the rows of each two layers that are asked for, and their number
abbrev pub pair_lines : Shape → List ℤ → (layer : ℕ) → List ℕ
pair_lines s cells layer = let rows = pair_rows s cells layer in flat_map (two_line s cells) rows ++ count_line (length rows)
