-- Plans of the same rectangles: two layers exchanged, all layers in any order, and a layer's list cut in two (02, Q-8). No public call's contract cites
-- this. Layers and columns are counted from 0.
use Rattle.std.specs.Prelude.{List, [], ◌∷◌, ◌++◌, map, ℕ, ◌+◌, ◌*◌, ℤ, get_or, set, take, drop}
use Rattle.lists.specs.Lists.{padded, numbers}
use Rattle.plan.specs.declared.Shape.{Shape}
use Rattle.plan.specs.Limits.{most_layers}
use Rattle.plan.specs.Plan.{sizes_of}

-- a plan as it is handed over
pub record Plan : Type 0 where
  pub shape : Shape
  pub cells : List ℤ

-- ---- the cells layer by layer
-- 01: "The rectangles of a layer are the part of the cells that starts after all earlier layers."
abbrev pub parts : List ℕ → List ℤ → List (List ℤ)
parts [] cells = []
parts (n ∷ ns) cells = take (4 * n) cells ∷ parts ns (drop (4 * n) cells)

abbrev pub parts_of : Plan → List (List ℤ)
parts_of p = parts (sizes_of p.shape) p.cells

-- one part after the other
abbrev pub joined : List (List ℤ) → List ℤ
joined [] = []
joined (part ∷ rest) = part ++ joined rest

-- ---- all layers in any order
-- the elements at these places, in turn
unfoldable pub selected : {A : Type 0} → A → (places : List ℕ) → List A → List A
selected d places l = map (λ m. get_or l m d) places

-- the layers at these places, in turn, with their sizes, margins and cells
abbrev pub arranged : (places : List ℕ) → Plan → Plan
arranged places p = record {
  shape = record {
    k = p.shape.k;
    sizes = padded most_layers (selected 0 places p.shape.sizes);
    margins = padded most_layers (selected 0 places p.shape.margins);
  };
  cells = joined (selected [] places (parts_of p));
}

-- and the columns of a row likewise
abbrev pub arranged_row : (places row : List ℕ) → List ℕ
arranged_row places row = selected 0 places row

-- 02: "Exchanging two layers": the places below k, those of layers i and j exchanged
unfoldable pub exchanging : (k i j : ℕ) → List ℕ
exchanging k i j = set (set (numbers k) i j) j i

-- ---- a layer's list cut in two
-- 02: "Cutting a layer's list in two": layer j has n of its rectangles, those from the place `from` on; every other layer and all margins stay
abbrev pub piece : (j from n : ℕ) → Plan → Plan
piece j from n p = record {
  shape = record { k = p.shape.k; sizes = set p.shape.sizes j n; margins = p.shape.margins };
  cells = joined (set (parts_of p) j (take (4 * n) (drop (4 * from) (get_or (parts_of p) j []))));
}

-- 02: "the places of the second part counted on from the first"
unfoldable pub counted_on : (j m : ℕ) → List ℕ → List ℕ
counted_on j m row = set row j (m + get_or row j 0)
