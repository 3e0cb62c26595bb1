-- Theorem: what the line of a row ends with, what rounding an area sum means, for every row and every sum, and the total of plans of the old range. Proved in
-- proofs/Theorems.antt.
use Rattle.std.specs.Prelude.{true, ◌≡◌, ℕ, ◌+◌, ◌*◌, ◌/◌, ◌%◌, ◌≤◌, ◌<◌, ℤ, pos, neg_ℤ}
use mathlib.Core.List.{List, [], ◌∷◌, ◌++◌, flat_map}
use Rattle.lists.specs.Lists.{All}
use Rattle.geometry.specs.declared.Rect.{Rect}
use Rattle.geometry.specs.Rectangles.{held, letter_of}
use Rattle.totals.specs.declared.Total.{Total}
use Rattle.totals.specs.Totals.{total_of, value_of}
use Rattle.decimal.specs.Numerals.{digits, decimal}
use Rattle.plan.specs.declared.Shape.{Shape}
use Rattle.plan.specs.Plan.{Layer, layers, Sound}
use Rattle.plan.specs.Theorems.{OldCells}
use Rattle.join.specs.Join.{kind_in}
use Rattle.join.specs.Table.{plan_table}
use Rattle.ground.specs.Union.{covered, squares, union_of, grounds}
use Rattle.printing.specs.Lines.{row_line, row_lines, hundredths, square_metres, total_line}

pub record RowsEnd : Type 0 where
  -- 02, Q-7: "Each ROW line ends with the kind of the row's common ground as one more field": a tab, the letter, byte 10
  pub kind : (ls : List Layer) (row : List ℕ) → (front : List ℕ) × (row_line ls row ≡ front ++ 9 ∷ letter_of (kind_in ls row) ∷ 10 ∷ [])
  -- one line a row, in the table's order
  pub lines : (ls : List Layer) (rows : List (List ℕ)) → row_lines ls rows ≡ flat_map (row_line ls) rows

pub record Rounds : Type 0 where
  -- a hundredth of a square metre is 10,000 square millimetres: the nearest count of them, and of two equally near the higher
  pub nearest : (area_sum : ℕ) → (10000 * hundredths area_sum ≤ area_sum + 5000) × (area_sum < 10000 * hundredths area_sum + 5000)
  -- "TOTAL, rows, trials, square metres": T O T A L and its fields, of a sum kept as metres and a rest what 01 says of the sum: "plus 5,000, divided by 10,000
  -- and rounded down, a count of hundredths"
  pub line : (rows probes n : ℕ) → total_line rows probes (total_of n)
      ≡ 84 ∷ 79 ∷ 84 ∷ 65 ∷ 76 ∷ 9 ∷ (decimal rows ++ 9 ∷ (decimal probes ++ 9 ∷ (square_metres ((n + 5000) / 10000) ++ 10 ∷ [])))
  -- 02, Q-13: "Rounding up at half a hundredth carries into the whole metres": from 995,000 square millimetres on the rest is one metre more, and nothing
  pub carries : (t : Total) → 995000 ≤ t.rest → t.rest < 1000000
      → square_metres (hundredths (value_of t)) ≡ decimal (t.metres + 1) ++ 46 ∷ 48 ∷ 48 ∷ []
  -- ... and below them only decimals
  pub stays : (t : Total) → t.rest < 995000 → square_metres (hundredths (value_of t)) ≡ decimal t.metres ++ 46 ∷ digits 2 ((t.rest + 5000) / 10000)
  -- printed with a point and two digits, tenths and hundredths
  pub printed : (h : ℕ) → square_metres h ≡ decimal (h / 100) ++ 46 ∷ (48 + h / 10 % 10) ∷ (48 + h % 10) ∷ []

-- 02, Q-13: "Every plan of the old range gives the same rows, trials and printed totals." Its rows and its walk have no range in their definitions; its checks:
-- plan, `Plans`: `old`
module _ (s : Shape) (cells : List ℤ) where
  -- the common ground of its rows
  abbrev pub row_grounds : List Rect
  row_grounds = grounds (layers s cells) (plan_table s cells)

  pub record OldTotal : Type 0 where
    pub ranged : All (λ r. held (pos 1050000) r ≡ true) row_grounds
    -- their union is as it was counted, from −1,050,000 to 1,050,000 either way, so that the line of the total is what it was (`Rounds`, `line`)
    pub union : let from = neg_ℤ (pos 1050000) in union_of row_grounds ≡ squares (covered row_grounds) from 2100000 from 2100000

pub record OldTotals : Type 0 where
  pub totals : (s : Shape) (cells : List ℤ) → Sound s cells → OldCells cells → OldTotal s cells
