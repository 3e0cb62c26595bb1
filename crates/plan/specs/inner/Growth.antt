-- What the functions that grow a plan ask of their callers and promise them; no public call's contract cites it.
use Rattle.std.specs.Prelude.{◌≡◌, List, true, ℕ, ◌*◌, ◌≤◌, ◌<◌, ℤ, length, take}
use Rattle.lists.specs.Lists.{All, sum}
use Rattle.geometry.specs.Rectangles.{in_range, most_margin}
use Rattle.plan.specs.declared.Shape.{Shape}
use Rattle.plan.specs.Plan.{rect_at, grown}

-- the first `size` rectangles lie in the cells, each in range
pub record InReach (cells : List ℤ) (size : ℕ) : Type 0 where
  pub whole : 4 * size ≤ length cells
  pub ranged : (p : ℕ) → p < size → in_range (rect_at cells p) ≡ true

-- k sizes and margins, and a run that takes the grown cells
pub record Growable (sizes margins : List ℕ) (k : ℕ) (cells : List ℤ) (room : ℕ) : Type 0 where
  pub sized : k ≤ length sizes
  pub margined : k ≤ length margins
  pub small : All (λ m. m ≤ most_margin) margins
  pub reach : InReach cells (sum (take k sizes))
  pub fits : 4 * sum (take k sizes) ≤ room

-- the run begins with the cells of the grown plan
pub record Grown (s : Shape) (cells run : List ℤ) : Type 0 where
  pub fits : length cells ≤ length run
  pub is : take (length cells) run ≡ grown s cells
