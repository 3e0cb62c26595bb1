-- Ground counted once (02, Q-6): the unit squares that lie in at least one of a list of rectangles.
use Rattle.std.specs.Prelude.{List, [], ◌∷◌, map, Bool, true, false, ◌&&◌, ◌||◌, ℕ, zero, suc, ◌+◌, ◌*◌, ℤ, pos, neg_ℤ, nat_abs, ◌+ℤ◌}
use Rattle.std.specs.Int.Signed.{le_z}
use Rattle.geometry.specs.declared.Rect.{Rect}
use Rattle.geometry.specs.Rectangles.{extent}
use Rattle.plan.specs.Plan.{Layer}
use Rattle.join.specs.Join.{rects, common_of}

-- ---- 02: "unit squares between neighbouring whole millimetre lines"
-- the unit from z to z + 1 lies between low and high
unfoldable pub holds_unit : ℤ → ℤ → ℤ → Bool
holds_unit low high z = le_z low z && le_z (z +ℤ pos 1) high

-- the unit square from x to x + 1 and from y to y + 1 lies in the rectangle
unfoldable pub square_in : ℤ → ℤ → Rect → Bool
square_in x y r = holds_unit r.left r.right x && holds_unit r.bottom r.top y

-- 02: "that lie in at least one of them"
abbrev pub covered : List Rect → ℤ → ℤ → Bool
covered [] x y = false
covered (r ∷ rs) x y = square_in x y r || covered rs x y

-- ---- 02: "the number of unit squares"
abbrev pub one : Bool → ℕ
one true = 1
one false = 0

-- the sum of f at n whole numbers from z on
abbrev pub over : (ℤ → ℕ) → ℤ → ℕ → ℕ
over f z zero = 0
over f z (suc n) = f z + over f (z +ℤ pos 1) n

-- how many of the squares with x among the w numbers from a on and y among the h from b on pass a test
abbrev pub squares : (ℤ → ℤ → Bool) → (a : ℤ) (w : ℕ) (b : ℤ) (h : ℕ) → ℕ
squares f a w b h = over (λ x. over (λ y. one (f x y)) b h) a w

-- how many units lie one after the other in the range that the walk takes
abbrev pub breadth : ℕ
breadth = 2 * nat_abs extent

-- the union of rectangles in that range: all of their squares are counted (specs/Theorems.antt, `whole`)
unfoldable pub union_of : List Rect → ℕ
union_of rs = squares (covered rs) (neg_ℤ extent) breadth (neg_ℤ extent) breadth

-- ---- 02: "the union of all rows' common ground"
-- the common ground of each row
abbrev pub grounds : List Layer → List (List ℕ) → List Rect
grounds ls rows = map (λ row. common_of (rects ls row)) rows
