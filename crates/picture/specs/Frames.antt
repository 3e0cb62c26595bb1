-- What a picture shows of the ground.
use Rattle.std.specs.Prelude.{List, cond, ℕ, zero, suc, ◌+◌, ◌/◌, leb, ℤ, nat_abs, ◌-ℤ◌}
use Rattle.geometry.specs.declared.Rect.{Rect}
use Rattle.geometry.specs.Rectangles.{min_z, max_z}
use Rattle.plan.specs.Plan.{rect_at, count}
use Rattle.picture.specs.declared.Frame.{Frame}

-- the smallest rectangle around two
unfoldable pub around : Rect → Rect → Rect
around a b =
    record { left = min_z a.left b.left; bottom = min_z a.bottom b.bottom; right = max_z a.right b.right; top = max_z a.top b.top }

-- .. around the first and n rectangles
abbrev pub hull : (ℕ → Rect) → (n : ℕ) → Rect
hull rect zero = rect 0
hull rect (suc n) = around (hull rect n) (rect n)

-- the ground of all rectangles in the cells; where there is none, the point 0, 0
abbrev pub ground_of : List ℤ → Rect
ground_of cells = hull (rect_at cells) (count cells)

-- the frame of some ground. A unit is a hundredth of the mean of width and height, and 1 more, so that it is never 0
unfoldable pub frame_of : Rect → Frame
frame_of r =
    let w = nat_abs (r.right -ℤ r.left) in let h = nat_abs (r.top -ℤ r.bottom) in
    record { left = r.left; top = r.top; width = w; height = h; unit = (w + h) / 200 + 1 }

-- the longer of two lengths
unfoldable pub longer : ℕ → ℕ → ℕ
longer a b = cond (leb a b) b a

-- the width of a line of n tenths of a millimetre, in tenths: at most 32,767 millimetres, since some viewers do not draw a wider one
unfoldable pub width_of : (n : ℕ) → ℕ
width_of n = cond (leb n 327670) n 327670

-- the length of the scale bar: the longest of 10 millimetres to 1,000 metres, each ten times the one before, that is at most 40 units; 10 where none is
unfoldable pub bar_of : (unit : ℕ) → ℕ
bar_of u =
    cond (leb 25000 u) 1000000 (cond (leb 2500 u) 100000 (cond (leb 250 u) 10000 (cond (leb 25 u) 1000 (cond (leb 3 u) 100 10))))
