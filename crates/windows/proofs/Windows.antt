-- Laws of windows: their check, cell by cell, and the cause of a plan with windows.
use mathlib.Core.Path.{◌≡◌, refl}
use mathlib.Core.List.{List}
use mathlib.Core.Bool.{Bool, true, false}
use mathlib.Core.Option.{some}
use Prim.Native.Nat.{ℕ, zero, suc, ◌*◌, ◌≤◌, ◌<◌}
use lib.IntN.{ℤ}
use lib.Dec.{leb}
use lib.ListN.{length}
use borrow.Author.Tests.{lt-ltb, le-ltb, eq-eqb, ne_eqb}
use Rattle.lists.specs.Lists.{sum}
use Rattle.lists.proofs.Tests.{below-not, below_end}
use Rattle.plan.specs.declared.Shape.{Shape}
use Rattle.plan.specs.Causes.{unless}
use Rattle.plan.specs.Plan.{plan_cause}
use Rattle.windows.specs.declared.Window.{Window}
use Rattle.windows.specs.Windows.{window_at, is_window, all_windows, are_hours}
use Rattle.windows.specs.HoursCall.{hours_cause}

-- ---- one window
pub window-closed : (w : Window) → w.to ≤ w.from → false ≡ is_window w
unfolding is_window
window-closed w h = rw (le-ltb w.from w.to h)

pub window-open : (w : Window) → w.from < w.to → leb w.to 10080 ≡ is_window w
unfolding is_window
window-open w h = rw (lt-ltb w.from w.to h)

-- ---- all of them
pub hours-short : (hours : List ℕ) (n : ℕ) → (length hours ≡ 2 * n → ⊥) → false ≡ are_hours n hours
unfolding are_hours
hours-short hours n h = rw (ne_eqb (length hours) (2 * n) h)

module _ (hours : List ℕ) (n : ℕ) (long : length hours ≡ 2 * n) where
  pub hours-not : (k : ℕ) → k < n → is_window (window_at hours k) ≡ false → false ≡ are_hours n hours
  unfolding are_hours
  hours-not k h e = rw (eq-eqb (length hours) (2 * n) long) (below-not (λ i. is_window (window_at hours i)) n k h e)

  pub hours-end : (i : ℕ) → all_windows i hours ≡ true → i ≤ n → n ≤ i → true ≡ are_hours n hours
  unfolding are_hours
  hours-end i e h k = rw (eq-eqb (length hours) (2 * n) long) (below_end (λ j. is_window (window_at hours j)) i n e h k)

-- ---- the cause
module _ (s : Shape) (cells : List ℤ) (hours : List ℕ) where
  pub hours-first : (n : ℕ) → n ≡ plan_cause s cells → (n ≡ 0 → ⊥) → n ≡ hours_cause (some hours) s cells
  unfolding hours_cause
  hours-first zero e h = absurd (h refl)
  hours-first (suc n) e h = rw (← e)

  pub hours-second : plan_cause s cells ≡ 0 → (n : ℕ) → n ≡ sum s.sizes → (t : Bool) → t ≡ are_hours n hours → unless t 24 ≡ hours_cause (some hours) s cells
  unfolding hours_cause
  hours-second e n k t h = rw (e, ← k, h)
