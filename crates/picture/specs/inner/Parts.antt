-- What the functions that draw a picture ask of their callers and promise one another; no public call's contract cites it.
use Rattle.std.specs.Prelude.{◌≡◌, true, List, ◌++◌, ℕ, ◌≤◌, ◌<◌, ℤ, length, take}
use Rattle.lists.specs.Lists.{All, sum}
use Rattle.geometry.specs.declared.Rect.{Rect}
use Rattle.geometry.specs.Rectangles.{in_range, most_margin}
use Rattle.plan.specs.declared.Shape.{Shape}
use Rattle.plan.specs.Plan.{Layer, rect_at, layers_of, sizes_of}
use Rattle.plan.specs.inner.Growth.{InReach}
use Rattle.picture.specs.declared.Frame.{Frame}
use Rattle.rows.specs.Tables.{rows_in}
use Rattle.picture.specs.Templates.{fill}
use Rattle.picture.specs.Texts.{rows_text, tail_text}
use Rattle.picture.specs.Pictures.{shapes_of, moved, layer_part, layer_parts, row_parts, scale}

-- the numbers of a frame are those of coordinates of 32 bits, and four units are one
pub record Small (f : Frame) : Type 0 where
  pub width : f.width < 4294967296
  pub height : f.height < 4294967296
  pub unit : f.unit < 536870912

-- a rectangle that can be drawn: in range, with its layer and its margin
pub record Drawable (layer margin : ℕ) (r : Rect) : Type 0 where
  pub few : layer ≤ 6
  pub small : margin ≤ most_margin
  pub ranged : in_range r ≡ true

-- a layer that can be drawn: the cells of its rectangles, its number and its margin
pub record LayerDrawable (layer margin : ℕ) (cells : List ℤ) (size : ℕ) : Type 0 where
  pub few : layer ≤ 6
  pub small : margin ≤ most_margin
  pub reach : InReach cells size
  pub short : size ≤ 3072

-- k layers that can be drawn
pub record LayersDrawable (sizes margins : List ℕ) (k : ℕ) (cells : List ℤ) : Type 0 where
  pub sized : k ≤ length sizes
  pub margined : k ≤ length margins
  pub few : k ≤ 6
  pub small : All (λ m. m ≤ most_margin) margins
  pub reach : InReach cells (sum (take k sizes))
  pub short : sum (take k sizes) ≤ 3072

-- the rectangles of a layer with these cells
abbrev pub shapes_in : (unit layer margin : ℕ) (cells : List ℤ) (size : ℕ) → List ℕ
shapes_in u j m cells n = shapes_of u j m (record { size = n; rect = rect_at cells })

-- .. and the layer
abbrev pub layer_in : Frame → (layer margin : ℕ) (cells : List ℤ) (size : ℕ) → List ℕ
layer_in f j m cells n = layer_part f j m (record { size = n; rect = rect_at cells })

-- what stands on top of the layers: the rows, of which there are n, and the tail
abbrev pub top_part : Frame → List Layer → (rows : List (List ℕ)) (n : ℕ) → List ℕ
top_part f ls rows n = fill rows_text (moved f) ++ (row_parts f.unit ls rows ++ fill tail_text (scale f n))

-- what stands behind the head, of the first n rows of a table
abbrev pub body_part : Frame → Shape → (drawn whole : List ℤ) (table : List ℕ) (n : ℕ) → List ℕ
body_part f s drawn whole table n =
    layer_parts f s.margins 0 (layers_of (sizes_of s) drawn) ++ top_part f (layers_of (sizes_of s) whole) (rows_in s.k n table) n
