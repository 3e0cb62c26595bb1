-- Closed rectangles (01, "The plan" and "The table").
use Rattle.std.specs.Prelude.{Bool, cond, ◌&&◌, ℕ, ◌*◌, ℤ, pos, neg_ℤ, nat_abs, ◌+ℤ◌, ◌-ℤ◌, ◌≤ℤ◌, Option, None, Some}
use Rattle.std.specs.Int.Signed.{le_z, lt_z}
use Rattle.geometry.specs.declared.Rect.{Rect}
use Rattle.geometry.specs.declared.Kind.{Kind}
use Rattle.geometry.specs.declared.Kind.TheVariants.{Ground, Edge, Point}

-- the point x, y lies in the rectangle. 01: "Edges belong to the rectangles, so touching counts." Whole millimetres are points enough:
-- rectangles with any common point have their common rectangle's corner in common
pub record In (x y : ℤ) (r : Rect) : Type 0 where
  pub left : r.left ≤ℤ x
  pub right : x ≤ℤ r.right
  pub bottom : r.bottom ≤ℤ y
  pub top : y ≤ℤ r.top

unfoldable pub max_z : ℤ → ℤ → ℤ
max_z a b = cond (le_z a b) b a

unfoldable pub min_z : ℤ → ℤ → ℤ
min_z a b = cond (le_z a b) a b

-- the intersection: the points in both (specs/Theorems.antt, `both`)
unfoldable pub common : Rect → Rect → Rect
common a b =
    record { left = max_z a.left b.left; bottom = max_z a.bottom b.bottom; right = min_z a.right b.right; top = min_z a.top b.top }

-- 01: "left ≤ right, bottom ≤ top"; "Equal sides are allowed: a segment or a point is a rectangle". Such a rectangle holds a point
unfoldable pub nonempty : Rect → Bool
nonempty r = le_z r.left r.right && le_z r.bottom r.top

-- the two have a common point (specs/Theorems.antt, `meet`)
unfoldable pub meets : Rect → Rect → Bool
meets a b = nonempty (common a b)

-- 02, Q-7: "its kind: G with both sides above 0, E with exactly one side 0, P with both 0" (specs/Theorems.antt, `sides`)
unfoldable pub kind_of : Rect → Kind
kind_of r = cond (lt_z r.left r.right) (cond (lt_z r.bottom r.top) Ground Edge) (cond (lt_z r.bottom r.top) Edge Point)

-- the letters G, E and P, as bytes
abbrev pub letter_of : Kind → ℕ
letter_of Ground = 71
letter_of Edge = 69
letter_of Point = 80

-- 02, Q-7: "The test of two rectangles shall say whether they meet and, if so, hand back their common rectangle and its kind"
unfoldable pub meeting : Rect → Rect → Option (Rect × Kind)
meeting a b = cond (meets a b) (Some (common a b, kind_of (common a b))) None

-- ---- range
-- 02, Q-13: "Coordinates widen to 10,000,000 either way of 0"
abbrev pub reach : ℤ
reach = pos 10000000

-- the range that the walk itself needs: that of a plan's coordinates, and the largest margin around it
abbrev pub extent : ℤ
extent = pos 10050000

-- z is from −b to b
unfoldable pub between : ℤ → ℤ → Bool
between b z = le_z (neg_ℤ b) z && le_z z b

-- the coordinates are from −b to b, left ≤ right and bottom ≤ top
unfoldable pub held : ℤ → Rect → Bool
held b r = between b r.left && between b r.bottom && between b r.right && between b r.top && nonempty r

-- a rectangle that cause 4 lets through
abbrev pub in_range : Rect → Bool
in_range r = held reach r

-- a rectangle that the walk takes
abbrev pub in_extent : Rect → Bool
in_extent r = held extent r

-- ---- margins
-- 02, Q-4: "a margin in millimetres, 0 to 50,000"
abbrev pub most_margin : ℕ
most_margin = 50000

-- 02, Q-4: "the one grown by its margin on all four sides" (specs/Theorems.antt, `Growing`)
unfoldable pub grown_by : ℕ → Rect → Rect
grown_by m r =
    record { left = r.left -ℤ pos m; bottom = r.bottom -ℤ pos m; right = r.right +ℤ pos m; top = r.top +ℤ pos m }

-- ---- area
-- 01: "width times its height in square millimetres" (specs/Theorems.antt, `sides`). Of a rectangle with its sides the wrong way round, which
-- no plan holds, it is the product of how far they lie apart
unfoldable pub area_of : Rect → ℕ
area_of r = nat_abs (r.right -ℤ r.left) * nat_abs (r.top -ℤ r.bottom)

-- the most that one in the extent has (proofs/Rectangles.antt, `extent-area`)
abbrev pub most_area : ℕ
most_area = 404010000000000
