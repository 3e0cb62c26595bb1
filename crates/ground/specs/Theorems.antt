-- Theorem: what is promised of ground counted once. Proved in proofs/Theorems.antt.
use Rattle.std.specs.Prelude.{◌≡◌, true, ◌↔◌, ℕ, ◌≤◌, ◌<◌, ℤ, pos, neg_ℤ, ◌+ℤ◌, ◌≤ℤ◌}
use mathlib.Core.List.{List, [], ◌∷◌, map, Memᴰ}
use Rattle.lists.specs.Lists.{All, Pairwise, sum}
use Rattle.geometry.specs.declared.Rect.{Rect}
use Rattle.geometry.specs.Rectangles.{held, area_of}
use Rattle.plan.specs.Plan.{Layer, layers_of}
use Rattle.plan.specs.Frames.{Framed}
use Rattle.join.specs.Join.{rects, common_of, area_in}
use Rattle.join.specs.Table.{table_of}
use Rattle.ground.specs.Union.{square_in, covered, squares, union_of, grounds}

-- the square from x to x + 1 and from y to y + 1 lies in the rectangle: each of its sides does
pub record HoldsSquare (x y : ℤ) (r : Rect) : Type 0 where
  pub left : r.left ≤ℤ x
  pub right : (x +ℤ pos 1) ≤ℤ r.right
  pub bottom : r.bottom ≤ℤ y
  pub top : (y +ℤ pos 1) ≤ℤ r.top

abbrev pub corners : (left bottom right top : ℤ) → Rect
corners left bottom right top = record { left = left; bottom = bottom; right = right; top = top }

-- all of them lie from −m to m
abbrev pub AllHeld : (m : ℕ) → List Rect → Type 0
AllHeld m rs = All (λ r. held (pos m) r ≡ true) rs

-- w units from a on have all from −m to m
abbrev pub Spans : (m : ℕ) (a : ℤ) (w : ℕ) → Type 0
Spans m a w = (a ≤ℤ neg_ℤ (pos m)) × (pos m ≤ℤ (a +ℤ pos w))

pub record UnionHolds : Type 0 where
  -- a square is covered where it lies in one of the rectangles
  pub square : (x y : ℤ) (r : Rect) → (square_in x y r ≡ true) ↔ HoldsSquare x y r
  pub some : (x y : ℤ) (rs : List Rect) → (covered rs x y ≡ true) ↔ ((r : Rect) × Memᴰ r rs × HoldsSquare x y r)
  -- no square lies outside the range of the rectangles: any that is as wide or wider counts the same. 02, Q-13: "Every plan of the old range gives the same ..
  -- printed totals": of rectangles from −1,050,000 to 1,050,000 the union is the count over that range
  pub whole : (m : ℕ) → m ≤ 10050000 → (rs : List Rect) → AllHeld m rs → (a b : ℤ) (w h : ℕ) → Spans m a w → Spans m b h
      → squares (covered rs) a w b h ≡ union_of rs
  -- the union is settled by the squares that are covered, and so (`some`) by which rectangles there are: neither order nor repetition matters
  pub settled : (rs ss : List Rect) → ((x y : ℤ) → covered rs x y ≡ covered ss x y) → union_of rs ≡ union_of ss
  -- at most the sum of the areas, and as much where no two share a square
  pub most : (rs : List Rect) → AllHeld 10050000 rs → union_of rs ≤ sum (map area_of rs)
  pub apart : (rs : List Rect) → AllHeld 10050000 rs → Pairwise (λ r s. (x y : ℤ) → square_in x y r ≡ true → square_in x y s ≡ true → ⊥) rs
      → union_of rs ≡ sum (map area_of rs)
  -- at least each area
  pub least : (rs : List Rect) → AllHeld 10050000 rs → (r : Rect) → Memᴰ r rs → area_of r ≤ union_of rs
  -- 20,100,000 units each way
  pub bound : (rs : List Rect) → union_of rs ≤ 404010000000000
  -- of 4 and 4 square millimetres, 1 of them common
  pub example : union_of (corners (pos 0) (pos 0) (pos 2) (pos 2) ∷ corners (pos 1) (pos 1) (pos 3) (pos 3) ∷ []) ≡ 7

-- of rows of a table, all of them or some, as a timed run's: rs is the common ground of each, so what `UnionHolds` says of areas it says of theirs
pub record RowsUnion (ls : List Layer) (rows : List (List ℕ)) (rs : List Rect) : Type 0 where
  pub ranged : AllHeld 10050000 rs
  pub areas : map area_of rs ≡ map (area_in ls) rows
  -- a square is covered exactly where it lies in the common ground of a row
  pub of_rows : (x y : ℤ) → (covered rs x y ≡ true) ↔ ((row : List ℕ) × Memᴰ row rows × HoldsSquare x y (common_of (rects ls row)))

pub record TableUnions : Type 0 where
  pub tables : (ns : List ℕ) (cells : List ℤ) → Framed ns cells → let ls = layers_of ns cells in
      (rows : List (List ℕ)) → All (λ row. Memᴰ row (table_of ns cells)) rows → RowsUnion ls rows (grounds ls rows)
  -- of all rows: a square lies in the common ground of one exactly where it lies in a rectangle of each layer. So the union of all rows' ground is the count of
  -- the squares that every layer covers (`whole`: all squares are counted that `covered` has)
  pub layers : (ns : List ℕ) (cells : List ℤ) → Framed ns cells → let ls = layers_of ns cells in
      (x y : ℤ) → (covered (grounds ls (table_of ns cells)) x y ≡ true) ↔ All (λ l. (p : ℕ) × (p < l.size) × HoldsSquare x y (l.rect p)) ls
