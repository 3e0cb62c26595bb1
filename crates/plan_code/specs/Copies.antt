-- What the calls over grown cells get from the function that makes them; no public call's contract cites it.
use Rattle.std.specs.Prelude.{◌≡◌, List, ◌≤◌, ℤ, length}
use Rattle.plan.specs.declared.Shape.{Shape}
use Rattle.plan.specs.Plan.{sizes_of, grown}
use Rattle.plan.specs.Frames.{Framed}

-- these are the cells of the grown plan, as functions below the calls take them
pub record GrownCells (s : Shape) (cells here : List ℤ) : Type 0 where
  pub is : here ≡ grown s cells
  pub framed : (s.k ≤ length s.sizes) × Framed (sizes_of s) here
