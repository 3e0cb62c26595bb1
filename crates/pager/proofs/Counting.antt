-- What the calls ask of a counter, in each case.
use mathlib.Core.Path.{◌≡◌, refl, sym, ap, ◌∙◌}
use mathlib.Core.List.{List, [], ◌∷◌}
use mathlib.Core.Bool.{Bool, true, false}
use Prim.Native.Nat.{ℕ, ◌≤◌, ◌<◌}
use native.Mathlib.Omega.{arith}
use lib.Dec.{eqb}
use lib.ListN.{length, get_or, set}
use borrow.Author.Tests.{lt-ltb, le-ltb, ne_eqb, eq-eqb}
use Rattle.plan.specs.Causes.{unless}
use Rattle.paging.specs.Calls.{most_count, one_cell, current}
use Rattle.paging.proofs.Counters.{current-is, current-below}

-- ---- the test of a counter
module _ (count : ℕ) (counter : List ℕ) where
  pub other-long : (length counter ≡ 1 → ⊥) → false ≡ current count counter
  unfolding current
  other-long h = rw (ne_eqb (length counter) 1 h)

  pub too-high : length counter ≡ 1 → most_count ≤ get_or counter 0 0 → false ≡ current count counter
  unfolding current
  too-high l h = rw (eq-eqb (length counter) 1 l, le-ltb (get_or counter 0 0) most_count h)

  pub compared : length counter ≡ 1 → get_or counter 0 0 < most_count → eqb (get_or counter 0 0) count ≡ current count counter
  unfolding current
  compared l h = rw (eq-eqb (length counter) 1 l, lt-ltb (get_or counter 0 0) most_count h)

  -- what a counter that passes has
  pub passing : (b : Bool) → b ≡ current count counter → b ≡ true → (length counter ≡ 1) × (count < most_count)
  passing b e y = let h = sym e ∙ y in (ap length (current-is count counter h), current-below count counter h)

-- ---- a fresh start
module _ (counter : List ℕ) where
  pub fresh-long : (length counter ≡ 1 → ⊥) → 18 ≡ unless (one_cell counter) 18
  fresh-long h = rw (ne_eqb (length counter) 1 h)

  pub fresh-none : length counter ≡ 1 → 0 ≡ unless (one_cell counter) 18
  fresh-none h = rw (eq-eqb (length counter) 1 h)

-- ---- writing
pub written : (l : List ℕ) (n : ℕ) → length l ≡ 1 → set l 0 n ≡ n ∷ []
written [] n h = absurd (omega arith)
written (a ∷ []) n h = refl
written (a ∷ b ∷ l) n h = absurd (omega arith)
