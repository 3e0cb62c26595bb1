-- The test of a counter: where it is passed, the counter is that of the ticket.
use mathlib.Core.Path.{◌≡◌, refl, ap, ◌∙◌, subst}
use mathlib.Core.List.{List, [], ◌∷◌}
use mathlib.Core.Bool.{true}
use Prim.Native.Nat.{ℕ, ◌<◌}
use native.Mathlib.Omega.{arith}
use lib.Dec.{eqb, ltb}
use lib.ListN.{length, get_or}
use borrow.Author.Tests.{ltb-true, lt-ltb, eqb-true, eq-eqb}
use Rattle.lists.specs.Lists.{Tells}
use Rattle.lists.proofs.Tests.{both, tells}
use Rattle.paging.specs.Calls.{most_count, current}
use Rattle.paging.specs.Theorems.{Current}

-- one cell, by what it holds
one_cell : (l : List ℕ) (n : ℕ) → length l ≡ 1 → get_or l 0 0 ≡ n → l ≡ n ∷ []
one_cell [] n h e = absurd (omega arith)
one_cell (a ∷ []) n h e = ap (λ (b : ℕ). b ∷ []) e
one_cell (a ∷ b ∷ l) n h e = absurd (omega arith)

module _ (count : ℕ) (counter : List ℕ) where
  -- it is one cell, which holds the count
  pub current-is : current count counter ≡ true → counter ≡ count ∷ []
  unfolding current
  current-is e =
      let h = both (eqb (length counter) 1) _ e in
      let k = both (ltb (get_or counter 0 0) most_count) _ h.1 in
      one_cell counter count (eqb-true _ _ h.0) (eqb-true _ _ k.1)

  -- and this is below 2^57
  pub current-below : current count counter ≡ true → count < most_count
  unfolding current
  current-below e =
      let h = both (eqb (length counter) 1) _ e in
      let k = both (ltb (get_or counter 0 0) most_count) _ h.1 in
      subst (λ (n : ℕ). n < most_count) (eqb-true _ _ k.1) (ltb-true _ _ k.0)

-- a count below 2^57 in one cell is current
pub current-now : (count : ℕ) → count < most_count → current count (count ∷ []) ≡ true
unfolding current
current-now count h = rw (lt-ltb count most_count h, eq-eqb count count refl)

-- the test tells whether the counter is current
pub current-tells : (count : ℕ) (counter : List ℕ) → Tells (Current count counter) (current count counter)
current-tells count counter = tells _ (λ e. (current-is count counter e, current-below count counter e)) (λ h. ap (current count) h.0 ∙ current-now count h.1)
