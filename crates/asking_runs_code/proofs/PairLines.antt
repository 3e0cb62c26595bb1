-- Laws of the lines of `pairs`: what the ground of a row tells, and a table's rows on their way to lines.
use mathlib.Core.Path.{◌≡◌, sym, ◌∙◌}
use mathlib.Core.Bool.{true}
use mathlib.Core.List.{List, ◌++◌}
use Prim.Native.Nat.{ℕ, ◌+◌, ◌-◌, ◌≤◌, ◌<◌}
use native.Mathlib.Numerals.{add-one}
use native.Mathlib.Omega.{arith}
use lib.IntN.{ℤ}
use lib.ListN.{length, take, drop}
use Rattle.std.specs.Prelude.{Option, Some}
use Rattle.geometry.specs.Rectangles.{area_of}
use Rattle.plan.specs.Plan.{Layer, layers_of}
use Rattle.rows.specs.declared.Ground.{Ground}
use Rattle.rows.specs.inner.Grounds.{ground_of}
use Rattle.rows.proofs.Answers.{ground-area, ground-kind}
use Rattle.rows.specs.RowCall.{is_row}
use Rattle.rows.specs.Tables.{rows_in}
use Rattle.rows.specs.inner.TableRows.{TableRows}
use Rattle.rows.proofs.TableRows.{Ahead, none_read, rows_split, next-is-row, one-read, row_inside}
use Rattle.pens.specs.declared.Pen.{Pen}
use Rattle.pens.specs.Pens.{RoomFor, wrote}
use Rattle.pens.proofs.Pens.{Due, due-all, due-room, due-then, due-none}
use Rattle.asking.specs.Lines.{pair_line}
use Rattle.asking_runs_code.specs.Parts.{of_two, lines_of_two, pair_fields}

-- the line of a row is made of what its ground tells
module _ (ls : List Layer) (row : List ℕ) (r : Option Ground) (e : r ≡ ground_of ls row) (g : Ground) (f : r ≡ Some g) (area : ℕ) (a : area ≡ area_of g.common) (lower higher : ℕ) where
  pub pair-told : of_two ls lower higher row ≡ pair_fields (lower + 1) (higher + 1) row area g.kind
  unfolding of_two pair_line
  pair-told = rw (add-one lower, add-one higher, ground-area ls row g (sym f ∙ e) area a, ground-kind ls row g (sym f ∙ e))

  pub pair-room : (pen : Pen) → RoomFor pen (of_two ls lower higher row) → RoomFor pen (pair_fields (lower + 1) (higher + 1) row area g.kind)
  pair-room pen h = rw pair-told at h

module _ (sizes : List ℕ) (k : ℕ) (cells : List ℤ) (table : List ℕ) (n lower higher : ℕ) (first : Pen) where
  -- the layers
  abbrev ours : List Layer
  ours = layers_of (take k sizes) cells

  -- the lines of the first i rows are written; those of the others, which stand from `start` on, are left
  pub record Unlisted (pen : Pen) (start i : ℕ) : Type 0 where
    pub ahead : Ahead sizes k cells table n start i
    pub left : Due first (lines_of_two ours lower higher (rows_in k n table)) pen (lines_of_two ours lower higher (rows_in k (n - i) (drop start table)))

  pub none-listed : TableRows sizes k cells table n → RoomFor first (lines_of_two ours lower higher (rows_in k n table)) → Unlisted first 0 0
  none-listed h r =
      let z : n - 0 ≡ n = omega arith in
      record { ahead = none_read sizes k cells table n h; left = rw z (due-all _ _ r) }

  module _ (pen : Pen) (start i : ℕ) (a : Unlisted pen start i) where
    pub all_listed : n ≤ i → pen ≡ wrote first (lines_of_two ours lower higher (rows_in k n table))
    all_listed h =
        let z : n - i ≡ 0 = omega arith in
        due-none _ _ _ (rw z at a.left)

    module _ (h : i < n) where
      left : Due first (lines_of_two ours lower higher (rows_in k n table)) pen (of_two ours lower higher (take k (drop start table)) ++ lines_of_two ours lower higher (rows_in k (n - (i + 1)) (drop (start + k) table)))
      left = rw (rows_split sizes k cells table n start i h) at a.left

      pub row-there : TableRows sizes k cells table n → start + k ≤ length table
      row-there r = row_inside sizes k cells table n start i a.ahead h r

      module _ (row : List ℕ) (e : row ≡ take k (drop start table)) where
        pub is-row : is_row ours row ≡ true
        is-row = rw e (next-is-row sizes k cells table n start i a.ahead h)

        pub next-room : RoomFor pen (of_two ours lower higher row)
        next-room = rw e (due-room _ _ _ (of_two ours lower higher (take k (drop start table))) _ left)

        pub next_row : (q : Pen) → q ≡ wrote pen (of_two ours lower higher row) → Unlisted q (start + k) (i + 1)
        next_row q w =
            record { ahead = one-read sizes k cells table n start i a.ahead h; left = due-then _ _ _ (of_two ours lower higher (take k (drop start table))) _ q left (rw e at w) }
