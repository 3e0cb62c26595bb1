-- The plan of two layers of a plan, and the rows of each two layers. Layers are counted from 0 here.
use Rattle.std.specs.Prelude.{List, [], ◌∷◌, ◌++◌, map, Bool, cond, ◌||◌, ℕ, suc, ◌-◌, ◌*◌, ℤ, eqb, get_or, take, drop}
use Rattle.lists.specs.Lists.{sum, each, padded}
use Rattle.plan.specs.declared.Shape.{Shape}
use Rattle.join.specs.Table.{plan_table}

-- the cells of the layer at i. 01: "The rectangles of a layer are the part of the cells that starts after all earlier layers."
abbrev pub layer_cells : Shape → List ℤ → ℕ → List ℤ
layer_cells s cells i = take (4 * get_or s.sizes i 0) (drop (4 * sum (take i s.sizes)) cells)

-- the plan of the layers at i and j: their sizes and margins ...
unfoldable pub two_shape : Shape → (i j : ℕ) → Shape
two_shape s i j = record {
  k = 2;
  sizes = padded 6 (get_or s.sizes i 0 ∷ get_or s.sizes j 0 ∷ []);
  margins = padded 6 (get_or s.margins i 0 ∷ get_or s.margins j 0 ∷ []);
}

-- ... and their cells
unfoldable pub two_cells : Shape → List ℤ → (i j : ℕ) → List ℤ
two_cells s cells i j = layer_cells s cells i ++ layer_cells s cells j

-- a row of the plan of two layers: the layers, and the row
pub record PairRow : Type 0 where
  pub lower : ℕ
  pub higher : ℕ
  pub row : List ℕ

-- the rows of the plan of the layers at i and j, in its table's order
abbrev pub rows_of_two : Shape → List ℤ → (i j : ℕ) → List PairRow
rows_of_two s cells i j = map (λ row. record { lower = i; higher = j; row = row }) (plan_table (two_shape s i j) (two_cells s cells i j))

-- the layers at i and j are asked for: one of them has the number `layer`, from 1; 0 asks for all
abbrev pub asked : (layer i j : ℕ) → Bool
asked layer i j = eqb layer 0 || (eqb layer (suc i) || eqb layer (suc j))

-- the rows of the layer at i with each later one that is asked for
abbrev pub rows_with : Shape → List ℤ → (layer i : ℕ) → List PairRow
rows_with s cells layer i = each (λ j. cond (asked layer i j) (rows_of_two s cells i j) []) (suc i) (s.k - suc i)

-- the rows of each two layers that are asked for, by the lower layer and then the higher
abbrev pub pair_rows : Shape → List ℤ → (layer : ℕ) → List PairRow
pair_rows s cells layer = each (rows_with s cells layer) 0 s.k
