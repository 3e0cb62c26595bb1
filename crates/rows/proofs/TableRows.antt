-- Laws of a run's table, read row by row.
use mathlib.Core.Path.{◌≡◌, ap, ◌∙◌}
use mathlib.Core.Bool.{true}
use mathlib.Core.List.{List, ◌∷◌}
use Prim.Native.Nat.{ℕ, suc, ◌+◌, ◌-◌, ◌≤◌, ◌<◌}
use native.Mathlib.Omega.{arith}
use lib.IntN.{ℤ}
use lib.ListN.{length, take, drop, length-take, length-drop}
use lib.Seq.{drop-drop}
use Rattle.lists.specs.Lists.{◌and◌}
use Rattle.lists.proofs.Tests.{both}
use Rattle.lists.proofs.Lists.{all-of-mem}
use Rattle.geometry.specs.Rectangles.{nonempty}
use Rattle.plan.specs.declared.Shape.{Shape}
use Rattle.plan.specs.Plan.{Layer, layers_of, sizes_of, Sound, grown}
use Rattle.plan.proofs.Growing.{framed}
use Rattle.join.specs.Join.{rects, common_of}
use Rattle.join.specs.Table.{sizes_in, table_of}
use Rattle.join.proofs.Theorems.{tables}
use Rattle.rows.specs.RowCall.{fits, is_row}
use Rattle.rows.proofs.RowCall.{fits-long, sizes-of}
use Rattle.rows.proofs.Theorems as Row
use Rattle.rows.specs.Tables.{rows_in}
use Rattle.rows.specs.inner.TableRows.{AllRows, TableRows}

-- a row has a place for each layer
row-long : (sizes : List ℕ) (cells : List ℤ) (row : List ℕ) → is_row (layers_of sizes cells) row ≡ true → length row ≡ length sizes
unfolding is_row
row-long sizes cells row e =
    let ls = layers_of sizes cells in
    fits-long (sizes_in ls) row (both (fits (sizes_in ls) row) (nonempty (common_of (rects ls row))) e).0 ∙ ap length (sizes-of sizes cells)

module _ (sizes : List ℕ) (k : ℕ) (cells : List ℤ) (table : List ℕ) (n : ℕ) where
  -- the layers
  abbrev pub among : List Layer
  among = layers_of (take k sizes) cells

  -- the first i rows are read; the others stand from `start` on
  pub record Ahead (start i : ℕ) : Type 0 where
    pub inside : i ≤ n
    pub rows : AllRows among (rows_in k (n - i) (drop start table))

  pub none_read : TableRows sizes k cells table n → Ahead 0 0
  none_read h =
      let z : n - 0 ≡ n = omega arith in
      record { inside = omega arith; rows = rw z h.all }

  -- the row at `start`, and those behind it
  pub rows_split : (start i : ℕ) → i < n → rows_in k (n - i) (drop start table) ≡ take k (drop start table) ∷ rows_in k (n - (i + 1)) (drop (start + k) table)
  rows_split start i h =
      let e : n - i ≡ suc (n - (i + 1)) = omega arith in
      rw (e, drop-drop k start table)

  module _ (start i : ℕ) (a : Ahead start i) (h : i < n) where
    parts : (is_row among (take k (drop start table)) ≡ true) × AllRows among (rows_in k (n - (i + 1)) (drop (start + k) table))
    parts = heads (rw (rows_split start i h) at a.rows)
      where
        heads : {row : List ℕ} {rows : List (List ℕ)} → AllRows among (row ∷ rows) → (is_row among row ≡ true) × AllRows among rows
        heads (◌and◌ p ps) = (p, ps)

    pub next-is-row : is_row among (take k (drop start table)) ≡ true
    next-is-row = parts.0

    pub one-read : Ahead (start + k) (i + 1)
    one-read = record { inside = omega arith; rows = parts.1 }

    -- it lies in the table
    pub row_inside : TableRows sizes k cells table n → start + k ≤ length table
    row_inside r =
        let e = length-take k sizes in
        let l = row-long (take k sizes) cells (take k (drop start table)) parts.0 in
        omega (arith, e, r.inside, r.framed.some, l, length-take k (drop start table), length-drop start table)

-- the table that a run left has the rows of the join
pub table-rows : (s : Shape) (cells : List ℤ) (table : List ℕ) (n : ℕ) → Sound s cells → rows_in s.k n table ≡ table_of (sizes_of s) (grown s cells) → TableRows s.sizes s.k (grown s cells) table n
table-rows s cells table n sound e =
    let f = framed s cells sound in
    let t = tables.tables (sizes_of s) (grown s cells) f.1 in
    record { inside = f.0; framed = f.1; all = rw e (all-of-mem (table_of (sizes_of s) (grown s cells)) (λ row m. (((Row.rows).rows s cells sound).names row).1 (t.is.sound row m))) }
