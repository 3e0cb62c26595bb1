-- Laws of the report's lines: their parts, and how long they may be.
use mathlib.Core.Path.{◌≡◌, refl, sym, ap, ap₂, ◌∙◌}
use mathlib.Core.List.{List, [], ◌∷◌, ◌++◌, map, append_assoc}
use Prim.Native.Nat.{ℕ, suc, ◌+◌, ◌*◌, ◌/◌, ◌%◌, ◌≤◌}
use native.Mathlib.Nat.{div-one}
use native.Mathlib.Omega.{arith}
use lib.ListN.{length, length-append}
use Rattle.totals.specs.declared.Total.{Total}
use Rattle.totals.specs.Totals.{value_of}
use Rattle.geometry.specs.declared.Kind.{Kind}
use Rattle.geometry.specs.Rectangles.{letter_of}
use Rattle.decimal.specs.Numerals.{digits, decimal}
use Rattle.decimal.proofs.Numerals.{length-decimal, size-most}
use Rattle.plan.specs.Plan.{Layer}
use Rattle.rows.specs.Tables.{cells_of}
use Rattle.printing.specs.Lines.{fields_end, ROW, row_fields, line_of, row_line, row_lines, hundredths, square_metres, total_line, refused_line}
use Rattle.printing.specs.inner.Parts.{tabbed}

-- ---- parts
numbers-first : (ns : List ℕ) (fs : List (List ℕ)) → fields_end (map decimal ns ++ fs) ≡ tabbed ns ++ fields_end fs
numbers-first [] fs = refl
numbers-first (n ∷ ns) fs =
    ap (λ (l : List ℕ). 9 ∷ l) (ap (λ (l : List ℕ). decimal n ++ l) (numbers-first ns fs) ∙ sym (append_assoc (decimal n) (tabbed ns) (fields_end fs)))

pub row-parts : (layer : ℕ) (row : List ℕ) (area : ℕ) (kind : Kind)
    → fields_end (row_fields layer row area kind) ≡ (9 ∷ decimal layer) ++ (tabbed row ++ fields_end (decimal area ∷ (letter_of kind ∷ []) ∷ []))
unfolding row_fields
row-parts layer row area kind = ap (λ (l : List ℕ). (9 ∷ decimal layer) ++ l) (numbers-first row (decimal area ∷ (letter_of kind ∷ []) ∷ []))

-- the last field of a row, given the letter
pub letter-of : (kind : Kind) (byte : ℕ) → byte ≡ letter_of kind → fields_end ((letter_of kind ∷ []) ∷ []) ≡ 9 ∷ byte ∷ 10 ∷ []
letter-of kind byte e = rw e

-- the point and two decimals, given the digits
pub decimals-of : (h tenths last : ℕ) → tenths ≡ 48 + h / 10 % 10 → last ≡ 48 + h % 10 → 46 ∷ digits 2 h ≡ 46 ∷ tenths ∷ last ∷ []
decimals-of h tenths last e f = rw (div-one h, e, f)

-- whole metres do not move the decimals
decimals-same : (m h : ℕ) → digits 2 (m * 100 + h) ≡ digits 2 h
decimals-same m h =
    let e : (m * 100 + h) / 10 % 10 ≡ h / 10 % 10 = omega arith in
    let f : (m * 100 + h) % 10 ≡ h % 10 = omega arith in
    ap₂ (λ (x y : ℕ). (48 + x) ∷ (48 + y) ∷ []) e (ap (λ (n : ℕ). n % 10) (div-one (m * 100 + h)) ∙ (f ∙ sym (ap (λ (n : ℕ). n % 10) (div-one h))))

-- the square metres of a total, given the hundredths of its rest: what they are above 99 carries into the whole metres
pub metres-are : (t : Total) (h : ℕ) → h ≡ hundredths t.rest → square_metres (hundredths (value_of t)) ≡ decimal (t.metres + h / 100) ++ 46 ∷ digits 2 h
unfolding square_metres value_of
metres-are t h e =
    let a : hundredths (t.metres * 1000000 + t.rest) ≡ t.metres * 100 + h = omega arith in
    let b : (t.metres * 100 + h) / 100 ≡ t.metres + h / 100 = omega arith in
    rw (a, b, decimals-same t.metres h) refl

pub metres-told : (t : Total) → square_metres (hundredths (value_of t)) ≡ decimal (t.metres + hundredths t.rest / 100) ++ 46 ∷ digits 2 (hundredths t.rest)
metres-told t = metres-are t (hundredths t.rest) refl

-- what a check needs of the lines to find how they are written
pub ruleset told = (row-parts, metres-told)

-- ---- lengths: no number has more than twenty digits
few : (n : ℕ) → length (decimal n) ≤ 20
few n = omega (arith, length-decimal n, size-most 19 n)

-- a field and what follows
field-few : (f r : List ℕ) (m n : ℕ) → length f ≤ m → length r ≤ n → length (9 ∷ f ++ r) ≤ suc (m + n)
field-few f r m n h k = omega (arith, length-append f r)

tabbed-few : (ns r : List ℕ) → length (tabbed ns ++ r) ≤ 21 * length ns + length r
tabbed-few [] r = omega arith
tabbed-few (n ∷ ns) r = rw (append_assoc (decimal n) (tabbed ns) r) (omega (arith, length-append (decimal n) (tabbed ns ++ r), few n, tabbed-few ns r))

row-few : (layer : ℕ) (row : List ℕ) (area : ℕ) (kind : Kind) → length (line_of ROW (row_fields layer row area kind)) ≤ 48 + 21 * length row
unfolding line_of
row-few layer row area kind =
    let end = fields_end (decimal area ∷ (letter_of kind ∷ []) ∷ []) in
    let e : length end ≤ 24 = field-few (decimal area) (9 ∷ letter_of kind ∷ 10 ∷ []) 20 3 (few area) (omega arith) in
    let n : length (tabbed row ++ end) ≤ 21 * length row + 24 = omega (arith, tabbed-few row end, e) in
    rw (row-parts layer row area kind) (omega (arith, field-few (decimal layer) (tabbed row ++ end) 20 (21 * length row + 24) (few layer) n))

row-line-few : (ls : List Layer) (row : List ℕ) → length (row_line ls row) ≤ 48 + 21 * length row
row-line-few ls row = row-few _ row _ _

pub rows_few : (ls : List Layer) (rows : List (List ℕ)) → length (row_lines ls rows) ≤ 48 * length rows + 21 * length (cells_of rows)
rows_few ls [] = omega arith
rows_few ls (row ∷ rows) =
    omega (arith, length-append (row_line ls row) (row_lines ls rows), row-line-few ls row, length-append row (cells_of rows), rows_few ls rows)

metres-few : (h : ℕ) → length (square_metres h) ≤ 23
unfolding square_metres
metres-few h = omega (arith, length-append (decimal (h / 100)) (46 ∷ digits 2 h), few (h / 100))

pub total-few : (rows probes : ℕ) (total : Total) → length (total_line rows probes total) ≤ 72
unfolding line_of
total-few rows probes total =
    let h = hundredths (value_of total) in
    let last = fields_end (square_metres h ∷ []) in
    let a : length last ≤ 25 = field-few (square_metres h) (10 ∷ []) 23 1 (metres-few h) (omega arith) in
    let b = field-few (decimal probes) last 20 25 (few probes) a in
    omega (arith, field-few (decimal rows) (fields_end (decimal probes ∷ square_metres h ∷ [])) 20 46 (few rows) b)

pub refused-few : (cause : ℕ) → length (refused_line cause) ≤ 29
unfolding line_of
refused-few cause = omega (arith, field-few (decimal cause) (10 ∷ []) 20 1 (few cause) (omega arith))
