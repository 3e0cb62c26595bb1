-- What the functions that put the lines ask of their callers and promise one another; no public call's contract cites it.
use Rattle.std.specs.Prelude.{List, [], ◌∷◌, ◌++◌, ℕ, ◌+◌, ◌≤◌, length}
use Rattle.decimal.specs.Numerals.{decimal}

-- numbers, each behind its tab
abbrev pub tabbed : List ℕ → List ℕ
tabbed [] = []
tabbed (n ∷ ns) = 9 ∷ decimal n ++ tabbed ns

-- a buffer has room for bytes at a place
pub record FitsAt (buf : List ℕ) (at : ℕ) (bytes : List ℕ) : Type 0 where
  pub fits : at + length bytes ≤ length buf
