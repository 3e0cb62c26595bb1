-- A plan: a shape and cells (01, "The plan"), the grown plan (02, Q-4), and the causes that refuse a plan.
use Rattle.std.specs.Prelude.{◌≡◌, List, [], ◌∷◌, ◌++◌, Bool, true, ◌&&◌, ◌||◌, ℕ, suc, ◌+◌, ◌*◌, ◌/◌, ℤ, pos, eqb, leb, ltb, length, get_or, take, drop}
use Rattle.lists.specs.Lists.{sum, each, holds_below}
use Rattle.geometry.specs.declared.Rect.{Rect}
use Rattle.geometry.specs.Rectangles.{in_range, most_margin, grown_by}
use Rattle.plan.specs.declared.Shape.{Shape}
use Rattle.plan.specs.Causes.{unless, ◌or_else◌}
use Rattle.plan.specs.Limits.{most_layers, most_size}

-- 01: "signed 32-bit cells, four for each rectangle: left, bottom, right, top"
unfoldable pub rect_at : List ℤ → ℕ → Rect
rect_at cells i =
    record {
      left = get_or cells (4 * i) (pos 0);
      bottom = get_or cells (4 * i + 1) (pos 0);
      right = get_or cells (4 * i + 2) (pos 0);
      top = get_or cells (4 * i + 3) (pos 0);
    }

-- the four cells of a rectangle
abbrev pub rect_cells : Rect → List ℤ
rect_cells r = r.left ∷ r.bottom ∷ r.right ∷ r.top ∷ []

-- how many rectangles lie in the cells; n, where check 3 is passed (sweep's specs/Theorems.antt, `counted`)
abbrev pub count : List ℤ → ℕ
count cells = length cells / 4

-- a layer: how many rectangles it has, and the one at each place. Lists of layers, and so their indices here, begin at 0; 01 numbers layers from 1
pub record Layer : Type 0 where
  pub size : ℕ
  pub rect : ℕ → Rect

-- 01: "The rectangles of a layer are the part of the cells that starts after all earlier layers."
abbrev pub layers_of : List ℕ → List ℤ → List Layer
layers_of [] cells = []
layers_of (n ∷ ns) cells = record { size = n; rect = rect_at (take (4 * n) cells) } ∷ layers_of ns (drop (4 * n) cells)

-- the sizes of the k layers
abbrev pub sizes_of : Shape → List ℕ
sizes_of s = take s.k s.sizes

-- ---- the grown plan (02, Q-4)
-- the cells of n rectangles from place p on, each grown by m
abbrev pub grown_from : ℕ → (ℕ → Rect) → (p n : ℕ) → List ℤ
grown_from m rect p n = each (λ q. rect_cells (grown_by m (rect q))) p n

-- ... of layers from the one at j on, counted from 0, each by its margin
abbrev pub grown_layers : (margins : List ℕ) → ℕ → List Layer → List ℤ
grown_layers ms j [] = []
grown_layers ms j (l ∷ ls) = grown_from (get_or ms j 0) l.rect 0 l.size ++ grown_layers ms (suc j) ls

-- the cells of the grown plan: as the plan's lie, each rectangle "the one grown by its margin on all four sides" (specs/Theorems.antt, `Grows`)
unfoldable pub grown : Shape → List ℤ → List ℤ
grown s cells = grown_layers s.margins 0 (layers_of (sizes_of s) cells)

-- the k layers of a plan, grown. 02: "Wherever a rectangle is compared, guarded, sorted or measured, it is the one grown"
abbrev pub layers : Shape → List ℤ → List Layer
layers s cells = layers_of (sizes_of s) (grown s cells)

-- ---- the causes
-- the number n of layer j, counted from 0, is at most `most`, and 0 past k
unfoldable pub fits_at : (most k j n : ℕ) → Bool
fits_at most k j n = leb n most && (ltb j k || eqb n 0)

-- ... and so are all from that of layer j on
abbrev pub all_fit : (most k j : ℕ) → List ℕ → Bool
all_fit most k j [] = true
all_fit most k j (n ∷ ns) = fits_at most k j n && all_fit most k (suc j) ns

-- 4 applies to none of the first n rectangles
abbrev pub all_ranged : ℕ → List ℤ → Bool
all_ranged n cells = holds_below (λ i. in_range (rect_at cells i)) n

-- the first of the causes 1, 2 and 17 that applies to a shape. 02, Q-4: "a margin out of range, or not 0 past k, 17, after 2"
abbrev pub shape_cause : Shape → ℕ
shape_cause s =
    unless (leb 2 s.k && leb s.k most_layers) 1
    or_else unless (all_fit most_size s.k 0 s.sizes) 2 or_else unless (all_fit most_margin s.k 0 s.margins) 17

-- the first of the causes 1 2 17 3 4 that applies to a plan. 02, Q-4: "check 4 and the text take it ungrown"
unfoldable pub plan_cause : Shape → List ℤ → ℕ
plan_cause s cells = shape_cause s or_else unless (eqb (length cells) (4 * sum s.sizes)) 3 or_else unless (all_ranged (count cells) cells) 4

-- what the types of a shape's fields say: six sizes and six margins, as [u32; 6] does
pub record Typed (s : Shape) : Type 0 where
  pub sizes : length s.sizes ≡ 6
  pub margins : length s.margins ≡ 6

-- a plan that none of them refuses
pub record Sound (s : Shape) (cells : List ℤ) : Type 0 where
  pub typed : Typed s
  pub passed : plan_cause s cells ≡ 0
