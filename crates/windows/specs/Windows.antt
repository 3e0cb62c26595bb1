-- Windows of the week (02, Q-12): when a rectangle is there. `hours` are the lent cells of all windows of a plan.
use Rattle.std.specs.Prelude.{List, [], ◌∷◌, Bool, ◌&&◌, ℕ, ◌+◌, ◌*◌, max, min, eqb, leb, ltb, length, get_or, drop}
use Rattle.lists.specs.Lists.{holds_below}
use Rattle.windows.specs.declared.Window.{Window}

-- the minutes of a week. 02: "in minutes, from 0 to 10,080"
abbrev pub week : ℕ
week = 10080

-- the window of the rectangle with a number. 02: "two unsigned 32-bit cells a rectangle, from and then to, in the order of the plan's cells"
unfoldable pub window_at : List ℕ → ℕ → Window
window_at hours i = record { from = get_or hours (2 * i) 0; to = get_or hours (2 * i + 1) 0 }

-- 02: "from 0 to 10,080, the from minute included and the to minute not, from below to"
unfoldable pub is_window : Window → Bool
is_window w = ltb w.from w.to && leb w.to week

-- the first n are such windows
abbrev pub all_windows : ℕ → List ℕ → Bool
all_windows n hours = holds_below (λ i. is_window (window_at hours i)) n

-- 02: "the buffer not 2n cells or a window not as stated, 24": 24 does not apply to the windows of n rectangles
unfoldable pub are_hours : ℕ → List ℕ → Bool
are_hours n hours = eqb (length hours) (2 * n) && all_windows n hours

-- ---- shared minutes
-- the minutes in both: from the later `from` on, before the earlier `to`
abbrev pub both : Window → Window → Window
both v w = record { from = max v.from w.from; to = min v.to w.to }

-- there is one
unfoldable pub is_open : Window → Bool
is_open w = ltb w.from w.to

-- those in w and in each of the windows
abbrev pub within : Window → List Window → Window
within w [] = w
within w (v ∷ vs) = within (both w v) vs

-- those in all of the windows, of which there is at least one
abbrev pub shared_by : List Window → Window
shared_by [] = record { from = 0; to = 0 }
shared_by (w ∷ ws) = within w ws

-- ---- the windows of a plan
-- those of each layer, by places: the part of the cells that starts after all earlier layers
abbrev pub layer_hours : (sizes : List ℕ) → List ℕ → List (ℕ → Window)
layer_hours [] hours = []
layer_hours (n ∷ ns) hours = window_at hours ∷ layer_hours ns (drop (2 * n) hours)

-- those of the places, one a layer
abbrev pub windows_at : List (ℕ → Window) → List ℕ → List Window
windows_at [] row = []
windows_at (l ∷ ls) [] = []
windows_at (l ∷ ls) (p ∷ row) = l p ∷ windows_at ls row

-- the minutes that the windows of a row's rectangles share
abbrev pub hours_of : (sizes : List ℕ) → List ℕ → (row : List ℕ) → Window
hours_of ns hours row = shared_by (windows_at (layer_hours ns hours) row)

-- 02: the row's "windows also share a minute"
abbrev pub shares_minute : (sizes : List ℕ) → List ℕ → (row : List ℕ) → Bool
shares_minute ns hours row = is_open (hours_of ns hours row)
