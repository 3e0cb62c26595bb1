-- The numbers that bound a plan, each with its one name.
use Rattle.std.specs.Prelude.{ℕ}

-- 01: "k layers, 2 to 6"
abbrev pub most_layers : ℕ
most_layers = 6

-- 01: "n_j rectangles, 0 to 512"
abbrev pub most_size : ℕ
most_size = 512

-- the rectangles of the largest plan, and its cells: four for each of six times 512
abbrev pub most_rects : ℕ
most_rects = 3072

abbrev pub most_cells : ℕ
most_cells = 12288
