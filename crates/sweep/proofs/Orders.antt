-- What the order maker answers, in each of its cases.
use mathlib.Core.Path.{◌≡◌, refl, sym, ◌∙◌}
use mathlib.Core.List.{List}
use mathlib.Core.Bool.{Bool}
use Prim.Native.Nat.{ℕ, zero, suc}
use lib.IntN.{ℤ}
use lib.ListN.{length}
use borrow.Author.Tests.{eq-eqb, ne_eqb}
use Rattle.lists.specs.Lists.{sum, same}
use Rattle.plan.specs.declared.Shape.{Shape}
use Rattle.std.specs.Prelude.{Result, Ok, Err}
use Rattle.plan.specs.Plan.{count, grown, plan_cause, Sound}
use Rattle.sweep.specs.Sweep.{sweep_order, make_cause, order_answer, order_number, order_after, order_cause}
use Rattle.plan.proofs.Plan.{checked, count-is}
use Rattle.plan.specs.Causes.{unless}

module _ (s : Shape) (cells : List ℤ) (order : List ℕ) where
  -- the promise of the order maker, of an answer and the buffer afterwards
  abbrev Answered : Result (Unit {0}) ℕ → List ℕ → Type 0
  Answered r after =
      (r ≡ order_answer (make_cause s cells order)) × ((order_number r ≡ make_cause s cells order) × (after ≡ order_after s cells order))

  pub order-refused : (n : ℕ) → n ≡ plan_cause s cells → (n ≡ 0 → ⊥) → Answered (Err n) order
  unfolding make_cause
  order-refused zero e h = absurd (h refl)
  order-refused (suc n) e h = rw (← e) (refl, (refl, refl))

  module _ (sound : Sound s cells) where
    pub order-misfit : (length order ≡ count cells → ⊥) → Answered (Err 8) order
    unfolding make_cause
    order-misfit h =
        let e = ne_eqb (length order) (sum s.sizes) (λ q. h (q ∙ sym (count-is s cells (checked s cells sound)))) in rw (sound.passed, e) (refl, (refl, refl))

    pub order-made : (after : List ℕ) → length order ≡ count cells → after ≡ sweep_order (grown s cells) → Answered (Ok tt) after
    unfolding make_cause
    order-made after h p =
        let e = eq-eqb (length order) (sum s.sizes) (h ∙ count-is s cells (checked s cells sound)) in rw (sound.passed, e) (refl, (refl, p))

-- ---- the check of an order
module _ (s : Shape) (cells : List ℤ) (order : List ℕ) where
  pub checked-plan : (n : ℕ) → n ≡ plan_cause s cells → (n ≡ 0 → ⊥) → n ≡ order_cause s cells order
  unfolding order_cause
  checked-plan zero e h = absurd (h refl)
  checked-plan (suc n) e h = rw (← e)

  pub checked-order : plan_cause s cells ≡ 0 → (t : Bool) → t ≡ same order (sweep_order (grown s cells)) → unless t 5 ≡ order_cause s cells order
  unfolding order_cause
  checked-order e t h = rw (e, h)
