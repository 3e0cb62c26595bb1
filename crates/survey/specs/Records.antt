-- Corner records (02, Q-9), their covers, and which of them are sound and kept.
use Rattle.std.specs.Prelude.{List, [], ◌∷◌, ◌++◌, Bool, true, ◌&&◌, ℕ, ◌+◌, ◌*◌, ◌/◌, ℤ, length, get_or, Float}
use Rattle.std.specs.Float.{nan}
use Rattle.lists.specs.Lists.{upto}
use Rattle.geometry.specs.declared.Rect.{Rect}
use Rattle.geometry.specs.Rectangles.{in_range}
use Rattle.plan.specs.Plan.{rect_cells}
use Rattle.floats.specs.Values.{floor_of, ceil_of}
use Rattle.survey.specs.declared.Corners.{Corners}
use Rattle.survey.specs.declared.Strip.{Strip}
use Rattle.survey.specs.Strips.{ordered, meets_strip}

-- "left, bottom, right, top in millimetres as 64-bit floats": the record at i, four floats each
unfoldable pub corners_at : List Float → ℕ → Corners
corners_at s i =
    record { left = get_or s (4 * i) nan; bottom = get_or s (4 * i + 1) nan; right = get_or s (4 * i + 2) nan; top = get_or s (4 * i + 3) nan }

-- the records in a run of floats, in their order
abbrev pub records : List Float → List Corners
records s = upto (corners_at s) 0 (length s / 4)

-- "covered by the smallest whole-millimetre rectangle that contains it: left and bottom taken down, right and top taken up" (specs/Theorems.antt, `cover`)
unfoldable pub cover_of : Corners → Rect
cover_of c = record { left = floor_of c.left; bottom = floor_of c.bottom; right = ceil_of c.right; top = ceil_of c.top }

-- 20 does not apply to the record: "any record's corner not finite, out of order, or covered beyond a million millimetres", since Q-13 beyond ten
unfoldable pub sound_record : Corners → Bool
sound_record c = ordered c.left c.right && ordered c.bottom c.top && in_range (cover_of c)

-- ... nor to any of these
abbrev pub all_sound : List Corners → Bool
all_sound [] = true
all_sound (c ∷ cs) = sound_record c && all_sound cs

-- "A record is kept exactly when its closed extent, before covering, meets the strip on both axes."
unfoldable pub kept_by : Strip → Strip → Corners → Bool
kept_by across upward c = meets_strip across c.left c.right && meets_strip upward c.bottom c.top

-- the cells of their covers: "left, bottom, right, top" (01, "The plan")
abbrev pub cover_cells : List Corners → List ℤ
cover_cells [] = []
cover_cells (c ∷ cs) = rect_cells (cover_of c) ++ cover_cells cs
