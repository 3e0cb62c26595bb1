-- The hatchings of the layers, by which they are told apart where there are no colours. A hatching is a line of six points, drawn in each rectangle of its
-- layer and in its line of the legend; from one stroke to the next it goes along the outline. It is no SVG pattern, which some viewers do not know.
use Rattle.std.specs.Prelude.{List, [], ◌∷◌, cond, ℕ, ◌+◌, ◌*◌, ◌/◌, eqb, ℤ, pos, nat_abs, ◌+ℤ◌, ◌-ℤ◌, get_or}
use Rattle.std.specs.Int.Signed.{lt_z}
use Rattle.geometry.specs.declared.Rect.{Rect}

-- three level strokes; of each point how many fourths of the width it lies from the left, and how many of the height from the bottom
abbrev pub level : List ℕ
level = 0 ∷ 1 ∷ 4 ∷ 1 ∷ 4 ∷ 2 ∷ 0 ∷ 2 ∷ 0 ∷ 3 ∷ 4 ∷ 3 ∷ []

-- three upright ones
abbrev pub upright : List ℕ
upright = 1 ∷ 0 ∷ 1 ∷ 4 ∷ 2 ∷ 4 ∷ 2 ∷ 0 ∷ 3 ∷ 0 ∷ 3 ∷ 4 ∷ []

-- three that rise to the right
abbrev pub rising : List ℕ
rising = 0 ∷ 2 ∷ 2 ∷ 4 ∷ 4 ∷ 4 ∷ 0 ∷ 0 ∷ 2 ∷ 0 ∷ 4 ∷ 2 ∷ []

-- three that fall
abbrev pub falling : List ℕ
falling = 0 ∷ 2 ∷ 2 ∷ 0 ∷ 4 ∷ 0 ∷ 0 ∷ 4 ∷ 2 ∷ 4 ∷ 4 ∷ 2 ∷ []

-- both diagonals
abbrev pub crossed : List ℕ
crossed = 0 ∷ 0 ∷ 4 ∷ 4 ∷ 4 ∷ 0 ∷ 0 ∷ 4 ∷ 0 ∷ 2 ∷ 0 ∷ 0 ∷ []

-- an upright and a level stroke through the middle
abbrev pub quartered : List ℕ
quartered = 2 ∷ 0 ∷ 2 ∷ 4 ∷ 4 ∷ 4 ∷ 4 ∷ 2 ∷ 0 ∷ 2 ∷ 0 ∷ 0 ∷ []

-- the hatching of a layer, of which there are six
unfoldable pub hatching_of : (layer : ℕ) → List ℕ
hatching_of j =
    cond (eqb j 1) level (cond (eqb j 2) upright (cond (eqb j 3) rising (cond (eqb j 4) falling (cond (eqb j 5) crossed quartered))))

-- how far a hatching goes beyond its rectangle: not at all, but by a unit where that is a point, so that it is seen
unfoldable pub beyond : (unit : ℕ) → Rect → ℕ
beyond u r = cond (lt_z r.left r.right) 0 (cond (lt_z r.bottom r.top) 0 u)

-- q fourths of the way from e in front of a to e behind b, in whole millimetres, rounded down
unfoldable pub fourth : (e : ℕ) (a b : ℤ) (q : ℕ) → ℤ
fourth e a b q = (a -ℤ pos e) +ℤ pos ((nat_abs (b -ℤ a) + 2 * e) * q / 4)

-- the points of a hatching that goes by e beyond a rectangle
abbrev pub points : (e : ℕ) → Rect → (hatching : List ℕ) → List ℤ
points e r h =
    let x : ℕ → ℤ = λ i. fourth e r.left r.right (get_or h i 0) in
    let y : ℕ → ℤ = λ i. fourth e r.bottom r.top (get_or h i 0) in
    x 0 ∷ y 1 ∷ x 2 ∷ y 3 ∷ x 4 ∷ y 5 ∷ x 6 ∷ y 7 ∷ x 8 ∷ y 9 ∷ x 10 ∷ y 11 ∷ []
