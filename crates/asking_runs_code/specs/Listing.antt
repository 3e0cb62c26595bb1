-- What the functions that list the rows of layers ask of one another and promise; no public call's contract cites it.
use Rattle.std.specs.Prelude.{◌≡◌, cond, ℕ, ◌+◌, ◌≤◌, ℤ, length}
use mathlib.Core.List.{List, [], flat_map}
use Rattle.std.proofs.Math.Option.{none}
use Rattle.lists.specs.inner.Stores.{Put}
use Rattle.plan.specs.declared.Shape.{Shape}
use Rattle.plan.specs.Plan.{grown, layers, Sound}
use Rattle.sweep.specs.Sweep.{sweep_order}
use Rattle.join.specs.Table.{plan_table}
use Rattle.paging.specs.Answers.{Run}
use Rattle.paging.specs.Calls.{run_call, run_table}
use Rattle.printing.specs.inner.Parts.{FitsAt}
use Rattle.asking.specs.Pairs.{PairRow, rows_of_two, asked}
use Rattle.asking_runs_code.specs.declared.Listed.{Listed}
use Rattle.asking_runs_code.specs.Parts.{lines_of_two}

-- the cells of a table that takes all rows of any two layers, and of a work buffer for them: two for each of 512 times 512
abbrev pub most_pair_cells : ℕ
most_pair_cells = 524288

-- the buffers that a run is lent
pub record Lent (table : List ℕ) (work : List ℤ) : Type 0 where
  pub takes : length table ≡ most_pair_cells
  pub works : length work ≡ most_pair_cells

-- ---- rows by their layers
module _ (line : PairRow → List ℕ) (rows : List PairRow) (out : List ℕ) (from : Listed) where
  -- there is room for their lines, and their count fits
  pub record Listable : Type 0 where
    pub fits : FitsAt out from.at (flat_map line rows)
    pub few : from.rows + length rows ≤ 4294967295

  -- their lines are put behind those before, and counted with them
  pub record Lists (after : List ℕ) (r : Listed) : Type 0 where
    pub put : Put out from.at (flat_map line rows) after r.at
    pub count : r.rows ≡ from.rows + length rows

-- the rows of the layers at i and j, where they are asked for
abbrev pub rows_asked : Shape → List ℤ → (layer i j : ℕ) → List PairRow
rows_asked s cells layer i j = cond (asked layer i j) (rows_of_two s cells i j) []

-- ---- rows of a plan of two layers, which are at `lower` and `higher` of another
module _ (s : Shape) (cells : List ℤ) (lower higher : ℕ) where
  pub record Twofold : Type 0 where
    pub sound : Sound s cells
    pub two : s.k ≡ 2
    pub few : length (plan_table s cells) ≤ 262144
    pub low : lower ≤ 5
    pub high : higher ≤ 5

  module _ (out : List ℕ) (from : Listed) where
    pub record TwoListable : Type 0 where
      pub fits : FitsAt out from.at (lines_of_two (layers s cells) lower higher (plan_table s cells))
      pub few : from.rows + length (plan_table s cells) ≤ 4294967295

    pub record TwoListed (after : List ℕ) (r : Listed) : Type 0 where
      pub put : Put out from.at (lines_of_two (layers s cells) lower higher (plan_table s cells)) after r.at
      pub count : r.rows ≡ from.rows + length (plan_table s cells)

-- a whole run in the sweep order, into cells that take all rows: its answer, and the table that it left
pub record Ran (s : Shape) (cells : List ℤ) (run : Run) (table : List ℕ) : Type 0 where
  pub before : List ℕ
  pub long : length before ≡ most_pair_cells
  pub answer : run ≡ run_call none s cells (sweep_order (grown s cells)) before most_pair_cells
  pub filled : table ≡ run_table none s cells (sweep_order (grown s cells)) before most_pair_cells
