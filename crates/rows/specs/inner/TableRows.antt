-- What functions that read the rows of a run's table ask of it; no public call's contract cites it.
use Rattle.std.specs.Prelude.{◌≡◌, true, List, ℕ, ◌≤◌, ℤ, length, take}
use Rattle.lists.specs.Lists.{All}
use Rattle.plan.specs.Plan.{Layer, layers_of}
use Rattle.plan.specs.Frames.{Framed}
use Rattle.rows.specs.RowCall.{is_row}
use Rattle.rows.specs.Tables.{rows_in}

-- each is a row of the join
abbrev pub AllRows : List Layer → List (List ℕ) → Type 0
AllRows ls rows = All (λ row. is_row ls row ≡ true) rows

-- the first n rows of a table are rows of the first k layers' join
pub record TableRows (sizes : List ℕ) (k : ℕ) (cells : List ℤ) (table : List ℕ) (n : ℕ) : Type 0 where
  pub inside : k ≤ length sizes
  pub framed : Framed (take k sizes) cells
  pub all : AllRows (layers_of (take k sizes) cells) (rows_in k n table)
