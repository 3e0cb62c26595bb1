-- Theorem: what is promised of the sweep order, and of the causes of the calls that check or make it. Proved in proofs/Theorems.antt.
use Rattle.std.specs.Prelude.{◌≡◌, ◌↔◌, ℕ, suc, ◌+◌, ◌<◌, ℤ, length, get_or, take}
use mathlib.Core.List.{List, Memᴰ}
use Rattle.lists.specs.Lists.{Pairwise, sum}
use Rattle.plan.specs.declared.Shape.{Shape}
use Rattle.plan.specs.Causes.{Check, Passed}
use Rattle.plan.specs.Plan.{rect_at, count, layers_of, grown}
use Rattle.plan.specs.Theorems.{PlanChecks}
use Rattle.plan.specs.Frames.{Framed}
use Rattle.plan.specs.Spots.{spot_of, Has, rect_of}
use Rattle.sweep.specs.Sweep.{Earlier, sweep_order, order_cause, make_cause, order_after}

-- the numbers 0 to n − 1 and no others
abbrev pub AllBelow : ℕ → List ℕ → Type 0
AllBelow n l = (i : ℕ) → Memᴰ i l ↔ (i < n)

-- by left, then layer, then place
abbrev pub Swept : List ℕ → List ℤ → List ℕ → Type 0
Swept ns cells l = Pairwise (λ a b. Earlier (layers_of ns cells) (spot_of ns a) (spot_of ns b)) l

-- of layers of these sizes
pub record SweepHolds (ns : List ℕ) (cells : List ℤ) : Type 0 where
  -- n rectangles lie in the cells
  pub counted : count cells ≡ sum ns
  -- numbers run by layer and then place: place p of layer j, from 0, comes after all earlier layers
  pub numbering : (j p : ℕ) → p < get_or ns j 0 → spot_of ns (sum (take j ns) + p) ≡ record { layer = j; place = p }
  -- each number is that of a rectangle, as they lie in the cells
  pub spots : (i : ℕ) → i < sum ns → Has (layers_of ns cells) (spot_of ns i) × (rect_of (layers_of ns cells) (spot_of ns i) ≡ rect_at cells i)
  -- the order has just these numbers, strictly ascending, so each once
  pub permutes : AllBelow (sum ns) (sweep_order cells)
  pub ascending : Swept ns cells (sweep_order cells)
  -- ... and it is the only such list
  pub only : (l : List ℕ) → AllBelow (sum ns) l → Swept ns cells l → l ≡ sweep_order cells

-- the calls that check and make an order
pub record OrderHolds (s : Shape) (cells : List ℤ) (order : List ℕ) : Type 0 where
  -- the causes: a plan's, then 5, "order buffer not the sweep order of n", of the grown plan; of the order maker 8, "buffer not n cells"
  pub checked : PlanChecks s cells (Check 5 (order ≡ sweep_order (grown s cells)) Passed) (order_cause s cells order)
  pub make : PlanChecks s cells (Check 8 (length order ≡ sum s.sizes) Passed) (make_cause s cells order)
  -- the maker leaves the sweep order in the buffer where no cause applies, else the buffer is as it was
  pub filled : make_cause s cells order ≡ 0 → order_after s cells order ≡ sweep_order (grown s cells)
  pub kept : (n : ℕ) → make_cause s cells order ≡ suc n → order_after s cells order ≡ order

pub record Sweeps : Type 0 where
  pub sweep : (ns : List ℕ) (cells : List ℤ) → Framed ns cells → SweepHolds ns cells
  pub calls : (s : Shape) (cells : List ℤ) (order : List ℕ) → OrderHolds s cells order
