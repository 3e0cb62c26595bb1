-- What the table, the walk and the functions below the public calls ask of sizes and cells; the checks of a plan give it; no public call's contract
-- cites it.
use Rattle.std.specs.Prelude.{◌≡◌, List, true, ℕ, ◌*◌, ◌≤◌, ◌<◌, ℤ, length}
use Rattle.lists.specs.Lists.{All, sum}
use Rattle.geometry.specs.Rectangles.{in_extent}
use Rattle.plan.specs.Limits.{most_layers, most_size}
use Rattle.plan.specs.Plan.{rect_at}

-- two to six layers of at most 512 rectangles, four cells for each, all of them in the extent
pub record Framed (sizes : List ℕ) (cells : List ℤ) : Type 0 where
  pub some : 2 ≤ length sizes
  pub few : length sizes ≤ most_layers
  pub small : All (λ n. n ≤ most_size) sizes
  pub whole : length cells ≡ 4 * sum sizes
  pub ranged : (k : ℕ) → k < sum sizes → in_extent (rect_at cells k) ≡ true
