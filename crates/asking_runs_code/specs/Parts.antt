-- What the functions that list the rows of layers ask of one another and promise of lines and cells; no public call's contract cites it.
use Rattle.std.specs.Prelude.{List, [], ◌∷◌, ◌++◌, ℕ, ◌+◌, ◌*◌, ◌≤◌, ◌<◌, ℤ, length, get_or, take, drop}
use Rattle.lists.specs.Lists.{sum}
use Rattle.geometry.specs.declared.Kind.{Kind}
use Rattle.decimal.specs.Numerals.{decimal}
use Rattle.plan.specs.Plan.{Layer}
use Rattle.printing.specs.Lines.{line_of, row_fields}
use Rattle.outcomes.specs.Texts.{ascii}
use Rattle.asking.specs.Lines.{pair_line}

-- ---- lines
-- the line of a row of the layers at `lower` and `higher`, from 0
unfoldable pub of_two : List Layer → (lower higher : ℕ) → List ℕ → List ℕ
of_two ls lower higher row = pair_line ls (record { lower = lower; higher = higher; row = row })

-- the lines of such rows
abbrev pub lines_of_two : List Layer → (lower higher : ℕ) → List (List ℕ) → List ℕ
lines_of_two ls lower higher [] = []
lines_of_two ls lower higher (row ∷ rows) = of_two ls lower higher row ++ lines_of_two ls lower higher rows

-- a PAIR line of layers from 1
abbrev pub pair_fields : (lower higher : ℕ) → List ℕ → (area : ℕ) → Kind → List ℕ
pair_fields lower higher row area kind = line_of (ascii "PAIR") (decimal lower ∷ row_fields higher row area kind)

-- ---- the cells of a layer
abbrev pub part_of : List ℕ → List ℤ → ℕ → List ℤ
part_of sizes cells i = take (4 * get_or sizes i 0) (drop (4 * sum (take i sizes)) cells)

-- there are at most six layers, one at i, and its cells
pub record LayerThere (sizes : List ℕ) (cells : List ℤ) (i : ℕ) : Type 0 where
  pub few : length sizes ≤ 6
  pub there : i < length sizes
  pub inside : 4 * sum (take i sizes) + 4 * get_or sizes i 0 ≤ length cells
