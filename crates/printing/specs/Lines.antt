-- The lines of the report (01, "The report"). "Fields are tabbed, and each line ends in byte 10."
use Rattle.std.specs.Prelude.{List, [], ◌∷◌, ◌++◌, map, ℕ, suc, ◌+◌, ◌/◌}
use Rattle.totals.specs.declared.Total.{Total}
use Rattle.totals.specs.Totals.{value_of}
use Rattle.decimal.specs.Numerals.{digits, decimal}
use Rattle.geometry.specs.declared.Kind.{Kind}
use Rattle.geometry.specs.Rectangles.{letter_of}
use Rattle.plan.specs.Plan.{Layer}
use Rattle.join.specs.Join.{rects, area_in, kind_in, guard_layer}

-- ---- lines
-- the fields behind a line's word, each behind its tab, and the byte that ends the line
abbrev pub fields_end : List (List ℕ) → List ℕ
fields_end [] = 10 ∷ []
fields_end (f ∷ fs) = 9 ∷ f ++ fields_end fs

-- a line of a word and fields
unfoldable pub line_of : List ℕ → List (List ℕ) → List ℕ
line_of word fs = word ++ fields_end fs

-- the words
abbrev pub ROW : List ℕ
ROW = 82 ∷ 79 ∷ 87 ∷ []

abbrev pub TOTAL : List ℕ
TOTAL = 84 ∷ 79 ∷ 84 ∷ 65 ∷ 76 ∷ []

abbrev pub REFUSED : List ℕ
REFUSED = 82 ∷ 69 ∷ 70 ∷ 85 ∷ 83 ∷ 69 ∷ 68 ∷ []

-- ---- 01: "For each row it prints ROW, the guard's layer, the k places, the area in square millimetres." 02, Q-7: "Each ROW line ends with the kind of the
-- row's common ground as one more field."
unfoldable pub row_fields : (layer : ℕ) (places : List ℕ) (area : ℕ) → Kind → List (List ℕ)
row_fields layer places area kind = decimal layer ∷ (map decimal places ++ decimal area ∷ (letter_of kind ∷ []) ∷ [])

-- layers are numbered from 1
abbrev pub row_line : List Layer → List ℕ → List ℕ
row_line ls row = line_of ROW (row_fields (suc (guard_layer (rects ls row))) row (area_in ls row) (kind_in ls row))

abbrev pub row_lines : List Layer → List (List ℕ) → List ℕ
row_lines ls [] = []
row_lines ls (row ∷ rows) = row_line ls row ++ row_lines ls rows

-- ---- 01: "Last comes TOTAL, rows, trials, square metres."
-- "Square metres are the area sum plus 5,000, divided by 10,000 and rounded down, a count of hundredths": of the sum, never of one row
abbrev pub hundredths : (area_sum : ℕ) → ℕ
hundredths area_sum = (area_sum + 5000) / 10000

-- "printed with two decimals"
unfoldable pub square_metres : (hundredths : ℕ) → List ℕ
square_metres h = decimal (h / 100) ++ 46 ∷ digits 2 h

-- probes are 01's trials
abbrev pub total_line : (rows probes : ℕ) → Total → List ℕ
total_line rows probes total = line_of TOTAL (decimal rows ∷ decimal probes ∷ square_metres (hundredths (value_of total)) ∷ [])

-- ---- 01: "A refusal prints REFUSED and its number alone."
abbrev pub refused_line : (cause : ℕ) → List ℕ
refused_line cause = line_of REFUSED (decimal cause ∷ [])
