-- Texts with holes: the byte 64, @, stands for the next number.
use Rattle.std.specs.Prelude.{List, [], ◌∷◌, ◌++◌, cond, ℕ, eqb, ℤ}
use Rattle.decimal.specs.Numerals.{numeral}

-- what a byte of the text becomes: a hole the first of the numbers, any other byte itself. Where no number is left, a hole stays
unfoldable pub piece : ℕ → List ℤ → List ℕ
piece b [] = b ∷ []
piece b (z ∷ zs) = cond (eqb b 64) (numeral z) (b ∷ [])

-- the numbers for the bytes behind it
unfoldable pub later : ℕ → List ℤ → List ℤ
later b [] = []
later b (z ∷ zs) = cond (eqb b 64) zs (z ∷ zs)

-- the text with the numbers in its holes
abbrev pub fill : List ℕ → List ℤ → List ℕ
fill [] zs = []
fill (b ∷ t) zs = piece b zs ++ fill t (later b zs)
