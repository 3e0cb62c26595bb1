-- Theorem: what is promised of rectangles, one or two. Proved in proofs/Theorems.antt.
use Rattle.std.specs.Prelude.{◌≡◌, true, ◌↔◌, ℕ, zero, suc, ◌*◌, ◌≤◌, ℤ, pos, neg_ℤ, ◌+ℤ◌, ◌≤ℤ◌, None, Some}
use Rattle.geometry.specs.declared.Rect.{Rect}
use Rattle.geometry.specs.declared.Kind.{Kind}
use Rattle.geometry.specs.declared.Kind.TheVariants.{Ground, Edge, Point}
use Rattle.geometry.specs.Rectangles.{In, common, nonempty, meets, kind_of, letter_of, meeting, held, in_range, grown_by, area_of}

-- 02, Q-13: "Coordinates widen to 10,000,000 either way of 0"
abbrev pub Coordinate : ℤ → Type 0
Coordinate z = (neg_ℤ (pos 10000000) ≤ℤ z) × (z ≤ℤ pos 10000000)

-- 01: ".. ; left ≤ right, bottom ≤ top"
pub record Ranged (r : Rect) : Type 0 where
  pub left : Coordinate r.left
  pub bottom : Coordinate r.bottom
  pub right : Coordinate r.right
  pub top : Coordinate r.top
  pub across : r.left ≤ℤ r.right
  pub upward : r.bottom ≤ℤ r.top

-- two rectangles have a common point
abbrev pub Meet : Rect → Rect → Type 0
Meet a b = (x : ℤ) × (y : ℤ) × (In x y a × In x y b)

pub record CommonGround (a b : Rect) : Type 0 where
  -- a point is in the common rectangle exactly when it is in both
  pub both : (x y : ℤ) → In x y (common a b) ↔ (In x y a × In x y b)
  -- the test says whether they have a common point
  pub meet : (meets a b ≡ true) ↔ Meet a b
  -- 02, Q-7: "and, if so, hand back their common rectangle and its kind"; others nothing
  pub handed : Meet a b → meeting a b ≡ Some (common a b, kind_of (common a b))
  pub apart : (Meet a b → ⊥) → meeting a b ≡ None

-- 02, Q-7: "G with both sides above 0, E with exactly one side 0, P with both 0"
abbrev pub kind_by : (width height : ℕ) → Kind
kind_by zero zero = Point
kind_by zero (suc height) = Edge
kind_by (suc width) zero = Edge
kind_by (suc width) (suc height) = Ground

pub record Measured (r : Rect) : Type 0 where
  -- a plan may hold it exactly when its coordinates are in range and its sides in order
  pub range : (in_range r ≡ true) ↔ Ranged r
  -- the area is the width times the height, and the kind is that of these sides
  pub sides : (width height : ℕ) → r.right ≡ r.left +ℤ pos width → r.top ≡ r.bottom +ℤ pos height
      → (area_of r ≡ width * height) × (kind_of r ≡ kind_by width height)
  -- the area is 0 exactly where the kind is not G
  pub flat : nonempty r ≡ true → (area_of r ≡ 0) ↔ (kind_of r ≡ Ground → ⊥)

-- 02, Q-4: a rectangle "grown by its margin on all four sides"
pub record Growing (m : ℕ) (r g : Rect) : Type 0 where
  -- each side is moved out by the margin
  pub left : g.left +ℤ pos m ≡ r.left
  pub bottom : g.bottom +ℤ pos m ≡ r.bottom
  pub right : g.right ≡ r.right +ℤ pos m
  pub top : g.top ≡ r.top +ℤ pos m
  -- one in range, grown by at most 50,000, is from −10,050,000 to 10,050,000
  pub extent : in_range r ≡ true → m ≤ 50000 → held (pos 10050000) g ≡ true

pub record Geometry : Type 0 where
  pub two : (a b : Rect) → CommonGround a b
  pub one : (r : Rect) → Measured r
  pub grown : (m : ℕ) (r : Rect) → Growing m r (grown_by m r)
  -- the letters G, E and P, as bytes
  pub letters : (letter_of Ground ≡ 71) × (letter_of Edge ≡ 69) × (letter_of Point ≡ 80)
