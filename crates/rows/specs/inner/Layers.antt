-- The layers from one on, as loops over layers see them; no public contract cites it.
use Rattle.std.specs.Prelude.{◌≡◌, List, ℕ, ◌+◌, ◌*◌, ◌≤◌, ℤ, length, drop}
use Rattle.lists.specs.Lists.{sum}
use Rattle.geometry.specs.declared.Rect.{Rect}
use Rattle.plan.specs.Plan.{layers_of}
use Rattle.join.specs.Join.{rects}

-- the first j layers have `start` rectangles
pub record Reached (sizes : List ℕ) (start j : ℕ) : Type 0 where
  pub within : j ≤ length sizes
  pub sums : start + sum (drop j sizes) ≡ sum sizes

-- the rectangles of a row in the layers behind them
abbrev pub rects_from : List ℕ → List ℤ → List ℕ → (start j : ℕ) → List Rect
rects_from sizes cells row start j = rects (layers_of (drop j sizes) (drop (4 * start) cells)) (drop j row)
