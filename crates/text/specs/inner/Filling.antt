-- What the reader's two passes promise one another; no public call's contract cites it.
use Rattle.std.specs.Prelude.{◌≡◌, List, true, ℕ, ◌≤◌, ℤ, length, drop, Result, Ok, Err}
use Rattle.plan.specs.declared.cause.Cause.{Cause}
use Rattle.plan.specs.Causes.{number_of}
use Rattle.text.specs.declared.Decision.{Decision}
use Rattle.text.specs.Parsing.{all_lines}
use Rattle.text.specs.Plans.{cells_in}
use Rattle.text.specs.Reader.{read_cause, text_shape, text_cells}
use Rattle.lists.specs.Lists.{is_some, list_in}

-- the cells that the lines of a text give
unfoldable pub rest_cells : List ℕ → List ℤ
rest_cells t = cells_in (list_in (all_lines t))

-- lines stand from a place to the end, and n cells hold what they give
pub record LinesFit (s : List ℕ) (i n : ℕ) : Type 0 where
  pub inside : i ≤ length s
  pub formed : is_some (all_lines (drop i s)) ≡ true
  pub fits : length (rest_cells (drop i s)) ≤ n

-- an accepted text: its shape, and the place from which it fills the cells
pub record Taken (s : List ℕ) (n : ℕ) (d : Decision) : Type 0 where
  pub passed : read_cause n s ≡ 0
  pub shape : d.shape ≡ text_shape s
  pub room : LinesFit s d.next n
  pub cells : rest_cells (drop d.next s) ≡ text_cells s

-- what the first pass decides where n cells are lent
abbrev pub Decided : List ℕ → ℕ → Result Decision Cause → Type 0
Decided s n (Ok d) = Taken s n d
Decided s n (Err c) = number_of c ≡ read_cause n s
