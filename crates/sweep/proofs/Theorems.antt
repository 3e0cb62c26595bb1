-- The promises on the sweep order and on the causes of its calls hold.
use mathlib.Core.Path.{◌≡◌, refl}
use mathlib.Core.List.{List}
use mathlib.Core.Logic.{◌↔◌}
use Prim.Native.Nat.{ℕ}
use native.Mathlib.Omega.{arith}
use lib.IntN.{ℤ}
use lib.Dec.{eqb}
use lib.ListN.{length}
use borrow.Author.Tests.{eq-eqb, eqb-true}
use Rattle.lists.specs.Lists.{sum}
use Rattle.lists.proofs.Tests.{tells}
use Rattle.lists.proofs.Lists.{all-at, pairwise-with, ordered-unique}
use Rattle.plan.specs.declared.Shape.{Shape}
use Rattle.plan.specs.Plan.{grown, plan_cause, count}
use Rattle.sweep.specs.Sweep.{sweep_order, order_cause, make_cause}
use Rattle.sweep.specs.Theorems.{AllBelow, Swept, SweepHolds, Sweeps}
use Rattle.plan.proofs.Plan.{check-passed}
use Rattle.plan.proofs.Theorems.{plan-last}
use Rattle.sweep.proofs.Sweep.{sweep-is, sweep-has}
use Rattle.plan.proofs.Spots.{spot-number, rect-number}
use Rattle.sweep.proofs.Spots.{earlier, earlier-asym}
use Rattle.lists.proofs.Numbers.{same-tells}
use Rattle.plan.specs.Frames.{Framed}

sweep-holds : (ns : List ℕ) (cells : List ℤ) → Framed ns cells → SweepHolds ns cells
sweep-holds ns cells f = record {
  counted = count-is;
  numbering = λ j p k. spot-number ns j p k;
  spots = λ i p. let r = rect-number ns cells i p in (r.1, r.0);
  permutes = permutes;
  ascending = ascending;
  only = λ l n a. ordered-unique l (sweep_order cells) (λ x y. earlier-asym) a ascending (λ i m. (permutes i).1 ((n i).0 m)) (λ i m. (n i).1 ((permutes i).0 m));
}
  where
    count-is : count cells ≡ sum ns
    count-is = omega (arith, f.whole)

    permutes : AllBelow (sum ns) (sweep_order cells)
    permutes i = (λ m. omega (arith, count-is, all-at (sweep-is cells).below m), λ p. sweep-has cells (sweep-is cells) i (omega (arith, count-is)))

    ascending : Swept ns cells (sweep_order cells)
    ascending = pairwise-with (earlier ns cells f.whole) (sweep-is cells).below (sweep-is cells).ascending

-- ---- causes
-- an order passes exactly with its plan, and where it is the sweep order
pub order-passed : (s : Shape) (cells : List ℤ) (order : List ℕ) → (order_cause s cells order ≡ 0) ↔ ((plan_cause s cells ≡ 0) × (order ≡ sweep_order (grown s cells)))
unfolding order_cause
order-passed s cells order = check-passed (plan_cause s cells) 4 (λ z. same-tells order (sweep_order (grown s cells)))

-- the sweep order is not refused
pub order-passes : (s : Shape) (cells : List ℤ) → plan_cause s cells ≡ 0 → order_cause s cells (sweep_order (grown s cells)) ≡ 0
order-passes s cells e = (order-passed s cells (sweep_order (grown s cells))).1 (e, refl)

pub sweep-holding : Sweeps
unfolding order_cause make_cause
sweep-holding = record {
  sweep = sweep-holds;
  calls = λ s cells order.
      let n = sum s.sizes in
      record {
        checked = plan-last s cells 5 (λ z. same-tells order (sweep_order (grown s cells)));
        make = plan-last s cells 8 (λ z. tells (eqb (length order) n) (eqb-true (length order) n) (eq-eqb (length order) n));
        filled = λ e. rw e;
        kept = λ m e. rw e;
      };
}
