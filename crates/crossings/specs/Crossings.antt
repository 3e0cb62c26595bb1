-- Segments that cross rectangles, and the class of a row (02, Q-2), for any k.
use Rattle.std.specs.Prelude.{List, [], ◌∷◌, Bool, true, not, cond, ◌&&◌, ℕ, suc, ◌+◌, ◌-◌, ◌*◌, min, ℤ, length, get_or, take}
use Rattle.std.specs.Int.Signed.{le_z}
use Rattle.geometry.specs.declared.Rect.{Rect}
use Rattle.geometry.specs.Rectangles.{meets}
use Rattle.plan.specs.Plan.{Layer}
use Rattle.join.specs.Join.{rects, common_of}

-- ---- segments
-- the rectangle covers the point: it lies in it, on an edge or a corner too (specs/Theorems.antt, `covers`)
unfoldable pub covers : Rect → (x y : ℤ) → Bool
covers r x y = le_z r.left x && le_z x r.right && le_z r.bottom y && le_z y r.top

-- it covers the first end of a segment: the left end of a horizontal one, the bottom end of a vertical one
abbrev pub covers_first : Rect → Rect → Bool
covers_first r s = covers r s.left s.bottom

-- ... the last end: the right end of a horizontal one, the top end of a vertical one
abbrev pub covers_last : Rect → Rect → Bool
covers_last r s = covers r s.right s.top

-- 02: "A segment crosses a rectangle when they meet and the rectangle covers neither endpoint."
unfoldable pub crosses : (segment rectangle : Rect) → Bool
crosses s r = meets s r && (not (covers_first r s) && not (covers_last r s))

-- ---- 02: "Layer k − 1 then holds horizontal segments and layer k vertical ones": of a row's k rectangles
abbrev pub horizontal_of : List Rect → Rect
horizontal_of rs = get_or rs (length rs - 2) (common_of [])

abbrev pub vertical_of : List Rect → Rect
vertical_of rs = get_or rs (length rs - 1) (common_of [])

-- its rectangles "of layers 1 to k − 2"
abbrev pub others_of : List Rect → List Rect
others_of rs = take (length rs - 2) rs

-- ---- the class
-- 02: "both segments cross every rectangle" of these
abbrev pub both_cross : (h v : Rect) → List Rect → Bool
both_cross h v [] = true
both_cross h v (r ∷ rs) = (crosses h r && crosses v r) && both_cross h v rs

-- the number before the others, if the test holds
abbrev pub if_so : Bool → ℕ → List ℕ → List ℕ
if_so t n ns = cond t (n ∷ ns) ns

-- 02: "for layer i, 4(i − 1) + 1 when its rectangle covers the left end, + 2 the right end, + 3 the bottom end, + 4 the top end": these numbers, where j
-- layers come before those of the rectangles
abbrev pub covered_from : (h v : Rect) (j : ℕ) → List Rect → List ℕ
covered_from h v j [] = []
covered_from h v j (r ∷ rs) =
    if_so (covers_first r h) (4 * j + 1) (if_so (covers_last r h) (4 * j + 2)
    (if_so (covers_first r v) (4 * j + 3) (if_so (covers_last r v) (4 * j + 4) (covered_from h v (suc j) rs))))

-- the smallest of n and the others
abbrev pub smallest_of : ℕ → List ℕ → ℕ
smallest_of n [] = n
smallest_of n (m ∷ ms) = smallest_of (min n m) ms

abbrev pub smallest : List ℕ → ℕ
smallest [] = 0
smallest (n ∷ ns) = smallest_of n ns

-- 02: "A row is class 0 where both segments cross every rectangle of layers 1 to k − 2. Otherwise its class is the smallest of these"
unfoldable pub class_of : List Rect → ℕ
class_of rs =
    let h = horizontal_of rs in let v = vertical_of rs in cond (both_cross h v (others_of rs)) 0 (smallest (covered_from h v 0 (others_of rs)))

-- the class of a row by its places
abbrev pub class_in : List Layer → List ℕ → ℕ
class_in ls row = class_of (rects ls row)
