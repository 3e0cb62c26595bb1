-- How long the lines of the commands may be: no number has more than twenty digits.
use mathlib.Core.List.{List, [], ◌∷◌, map}
use Prim.Native.Nat.{ℕ, zero, suc, ◌+◌, ◌*◌, ◌≤◌}
use native.Mathlib.Omega.{arith}
use lib.ListN.{length, length-append}
use Rattle.decimal.specs.Numerals.{decimal}
use Rattle.decimal.proofs.Numerals.{length-decimal, size-most}
use Rattle.plan.specs.Plan.{Layer}
use Rattle.rows.specs.Tables.{cells_of}
use Rattle.printing.specs.Lines.{fields_end, line_of, row_line}
use Rattle.printing.proofs.Lines.{rows_few}
use Rattle.listing.specs.Lines.{CLASS, row_line_with, row_lines_with, class_line, class_lines}
use Rattle.listing.proofs.Lines.{row-length, with-length}

pub digits-few : (n : ℕ) → length (decimal n) ≤ 20
digits-few n = omega (arith, length-decimal n, size-most 19 n)

fields-few : (ns : List ℕ) → length (fields_end (map decimal ns)) ≤ 21 * length ns + 1
fields-few [] = omega arith
fields-few (n ∷ ns) = omega (arith, length-append (decimal n) (fields_end (map decimal ns)), digits-few n, fields-few ns)

-- lines of rows with at most two numbers more
module _ (more : List ℕ → List ℕ) (two : (row : List ℕ) → length (more row) ≤ 2) (ls : List Layer) where
  row-few : (row : List ℕ) → length (row_line_with more ls row) ≤ 91 + 21 * length row
  row-few row =
      omega (arith, row-length ls row, with-length more ls row, fields-few (more row), two row, rows_few ls (row ∷ []), length-append (row_line ls row) [], length-append row [])

  pub with-few : (rows : List (List ℕ)) → length (row_lines_with more ls rows) ≤ 91 * length rows + 21 * length (cells_of rows)
  with-few [] = omega arith
  with-few (row ∷ rows) =
      omega (arith, length-append (row_line_with more ls row) (row_lines_with more ls rows), row-few row, length-append row (cells_of rows), with-few rows)

-- lines of counts
count-few : (class count : ℕ) → length (line_of CLASS (decimal class ∷ decimal count ∷ [])) ≤ 48
unfolding line_of
count-few class count = omega (arith, fields-few (class ∷ count ∷ []), length-append CLASS (fields_end (decimal class ∷ decimal count ∷ [])))

class-few : (class count : ℕ) → length (class_line class count) ≤ 48
unfolding class_line
class-few class zero = omega arith
class-few class (suc n) = count-few class _

pub classes-few : (class : ℕ) (counts : List ℕ) → length (class_lines class counts) ≤ 48 * length counts
classes-few class [] = omega arith
classes-few class (n ∷ ns) = omega (arith, length-append (class_line class n) (class_lines (suc class) ns), class-few class n, classes-few (suc class) ns)
