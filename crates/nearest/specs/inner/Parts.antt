-- What the loop over a layer's cells asks of them and of the gaps; no public call's contract cites it.
use Rattle.std.specs.Prelude.{◌≡◌, List, true, ℕ, ◌*◌, ◌≤◌, ◌<◌, ℤ, length}
use Rattle.geometry.specs.Rectangles.{in_extent}
use Rattle.plan.specs.Plan.{rect_at}
use Rattle.plan.specs.Limits.{most_size}

-- the cells of n rectangles, all in the extent
pub record Part (cells : List ℤ) (n : ℕ) : Type 0 where
  pub small : n ≤ most_size
  pub whole : length cells ≡ 4 * n
  pub ranged : (p : ℕ) → p < n → in_extent (rect_at cells p) ≡ true

-- v is the gap where it is less than the smallest so far; else the gap is no less
pub record Within (least gap v : ℕ) : Type 0 where
  pub less : v < least → v ≡ gap
  pub more : least ≤ v → least ≤ gap
