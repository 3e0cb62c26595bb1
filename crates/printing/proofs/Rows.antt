-- Laws of a table's rows on their way to lines.
use mathlib.Core.Path.{◌≡◌, sym, ◌∙◌}
use mathlib.Core.Bool.{true}
use mathlib.Core.List.{List, ◌++◌}
use Prim.Native.Nat.{ℕ, ◌+◌, ◌-◌, ◌≤◌, ◌<◌}
use native.Mathlib.Omega.{arith}
use lib.IntN.{ℤ}
use lib.ListN.{length, take, drop}
use Rattle.std.specs.Prelude.{Option, Some, None}
use Rattle.lists.proofs.Tests.{clash}
use Rattle.geometry.specs.Rectangles.{area_of}
use Rattle.plan.specs.Plan.{Layer, layers_of}
use Rattle.plan.specs.Frames.{Framed}
use Rattle.plan.proofs.Spots.{layers-long}
use Rattle.rows.specs.declared.Ground.{Ground}
use Rattle.rows.specs.inner.Grounds.{ground_of}
use Rattle.rows.proofs.Answers.{ground-none, ground-small, ground-layer, ground-area, ground-kind}
use Rattle.rows.specs.RowCall.{is_row}
use Rattle.rows.specs.Tables.{rows_in}
use Rattle.rows.specs.inner.TableRows.{TableRows}
use Rattle.rows.proofs.TableRows.{Ahead, rows_split, next-is-row, one-read, row_inside}
use Rattle.pens.specs.declared.Pen.{Pen}
use Rattle.pens.specs.Pens.{RoomFor, wrote}
use Rattle.pens.proofs.Pens.{Due, due-room, due-then, due-none}
use Rattle.printing.specs.Lines.{line_of, ROW, row_fields, row_line, row_lines}

-- ---- the ground of a row of the join
module _ (ls : List Layer) (row : List ℕ) (r : Option Ground) (e : r ≡ ground_of ls row) where
  -- there is one
  pub not_none : is_row ls row ≡ true → r ≡ None → ⊥
  not_none is f = clash is (ground-none ls row (sym f ∙ e))

  -- the row's line is made of what it tells
  module _ (g : Ground) (f : r ≡ Some g) (area : ℕ) (a : area ≡ area_of g.common) where
    pub row_told : row_line ls row ≡ line_of ROW (row_fields (g.guard + 1) row area g.kind)
    row_told = rw (ground-layer ls row g (sym f ∙ e), ground-area ls row g (sym f ∙ e) area a, ground-kind ls row g (sym f ∙ e))

    pub row_room : (pen : Pen) → RoomFor pen (row_line ls row) → RoomFor pen (line_of ROW (row_fields (g.guard + 1) row area g.kind))
    row_room pen h = rw row_told at h

-- its guard is in one of at most six layers
pub layer-small : (sizes : List ℕ) (cells : List ℤ) (row : List ℕ) (r : Option Ground) (g : Ground)
    → Framed sizes cells → r ≡ ground_of (layers_of sizes cells) row → r ≡ Some g → g.guard + 1 < 4294967296
layer-small sizes cells row r g h e f =
    let l = layers-long sizes cells in
    omega (arith, ground-small (layers_of sizes cells) row g (sym f ∙ e) (omega (arith, l, h.some)), l, h.few)

module _ (sizes : List ℕ) (k : ℕ) (cells : List ℤ) (table : List ℕ) (n : ℕ) (first : Pen) where
  -- the layers
  abbrev ours : List Layer
  ours = layers_of (take k sizes) cells

  -- the first i rows are printed; the lines of the others, which stand from `start` on, are left
  pub record Unprinted (pen : Pen) (start i : ℕ) : Type 0 where
    pub ahead : Ahead sizes k cells table n start i
    pub left : Due first (row_lines ours (rows_in k n table)) pen (row_lines ours (rows_in k (n - i) (drop start table)))

  module _ (pen : Pen) (start i : ℕ) (a : Unprinted pen start i) where
    pub all-printed : n ≤ i → pen ≡ wrote first (row_lines ours (rows_in k n table))
    all-printed h =
        let z : n - i ≡ 0 = omega arith in
        due-none _ _ _ (rw z at a.left)

    module _ (h : i < n) where
      left : Due first (row_lines ours (rows_in k n table)) pen (row_line ours (take k (drop start table)) ++ row_lines ours (rows_in k (n - (i + 1)) (drop (start + k) table)))
      left = rw (rows_split sizes k cells table n start i h) at a.left

      pub row-there : TableRows sizes k cells table n → start + k ≤ length table
      row-there r = row_inside sizes k cells table n start i a.ahead h r

      module _ (row : List ℕ) (e : row ≡ take k (drop start table)) where
        pub is-row : is_row ours row ≡ true
        is-row = rw e (next-is-row sizes k cells table n start i a.ahead h)

        pub next-row-room : RoomFor pen (row_line ours row)
        next-row-room = rw e (due-room _ _ _ (row_line ours (take k (drop start table))) _ left)

        -- its line is written
        pub next_row : (q : Pen) → q ≡ wrote pen (row_line ours row) → Unprinted q (start + k) (i + 1)
        next_row q w =
            record { ahead = one-read sizes k cells table n start i a.ahead h; left = due-then _ _ _ (row_line ours (take k (drop start table))) _ q left (rw e at w) }
