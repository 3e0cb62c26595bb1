-- Lines of the commands `classes` and `hours` that the report has not: rows with more fields, and how many rows a class has.
use Rattle.std.specs.Prelude.{List, [], ◌∷◌, ◌++◌, map, ℕ, zero, suc}
use Rattle.decimal.specs.Numerals.{decimal}
use Rattle.plan.specs.Plan.{Layer}
use Rattle.join.specs.Join.{rects, area_in, kind_in, guard_layer}
use Rattle.crossings.specs.Crossings.{class_in}
use Rattle.printing.specs.Lines.{ROW, line_of, row_fields}

-- ---- rows
-- the report's ROW line with the row's own numbers `more` as fields behind its kind
abbrev pub row_line_with : (more : List ℕ → List ℕ) → List Layer → List ℕ → List ℕ
row_line_with more ls row = line_of ROW (row_fields (suc (guard_layer (rects ls row))) row (area_in ls row) (kind_in ls row) ++ map decimal (more row))

-- one line a row
abbrev pub row_lines_with : (more : List ℕ → List ℕ) → List Layer → List (List ℕ) → List ℕ
row_lines_with more ls [] = []
row_lines_with more ls (row ∷ rows) = row_line_with more ls row ++ row_lines_with more ls rows

-- ---- classes
-- the ROW line of a row that ends with its class
abbrev pub classed_line : List Layer → List ℕ → List ℕ
classed_line ls row = row_line_with (λ r. class_in ls r ∷ []) ls row

-- one line a row
abbrev pub classed_lines : List Layer → List (List ℕ) → List ℕ
classed_lines ls rows = row_lines_with (λ r. class_in ls r ∷ []) ls rows

-- the word CLASS
abbrev pub CLASS : List ℕ
CLASS = 67 ∷ 76 ∷ 65 ∷ 83 ∷ 83 ∷ []

-- CLASS, class, count; nothing for a class that no row has
unfoldable pub class_line : (class count : ℕ) → List ℕ
class_line class zero = []
class_line class (suc n) = line_of CLASS (decimal class ∷ decimal (suc n) ∷ [])

-- the lines of the counts of `class` and of those behind it
abbrev pub class_lines : (class : ℕ) → (counts : List ℕ) → List ℕ
class_lines class [] = []
class_lines class (n ∷ ns) = class_line class n ++ class_lines (suc class) ns
