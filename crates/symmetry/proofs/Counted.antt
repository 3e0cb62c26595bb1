-- The places of a column counted on from a number.
use mathlib.Core.Path.{◌≡◌, sym, ap, ◌∙◌}
use mathlib.Core.List.{List}
use Prim.Native.Nat.{ℕ, ◌+◌, ◌-◌, ◌≤◌, ◌<◌}
use native.Mathlib.Omega.{arith}
use lib.ListN.{length, get_or, set, length-set}
use lib.Seq.{get_or-set_same, get_or-set_other, set-set, set-get_or, ext_get_or}
use Rattle.symmetry.specs.Plans.{counted_on}
use Rattle.symmetry.proofs.Places.{here-or-else}

module _ (j start : ℕ) (row : List ℕ) where
  pub counted-long : length (counted_on j start row) ≡ length row
  unfolding counted_on
  counted-long = length-set row j _

  pub counted-here : j < length row → get_or (counted_on j start row) j 0 ≡ start + get_or row j 0
  unfolding counted_on
  counted-here h = get_or-set_same row j (start + get_or row j 0) 0 h

  pub counted-else : (m : ℕ) → (m ≡ j → ⊥) → get_or (counted_on j start row) m 0 ≡ get_or row m 0
  unfolding counted_on
  counted-else m n = get_or-set_other row j m (start + get_or row j 0) 0 n

  -- what was counted on to this row
  pub counted_back : j < length row → start ≤ get_or row j 0 → counted_on j start (set row j (get_or row j 0 - start)) ≡ row
  unfolding counted_on
  counted_back h k =
      let e : start + (get_or row j 0 - start) ≡ get_or row j 0 = omega arith in
      rw (get_or-set_same row j (get_or row j 0 - start) 0 h, set-set row j (get_or row j 0 - start) (start + (get_or row j 0 - start)), e) (set-get_or row j 0)

pub counted_none : (j : ℕ) (row : List ℕ) → counted_on j 0 row ≡ row
unfolding counted_on
counted_none j row = let e : 0 + get_or row j 0 ≡ get_or row j 0 = omega arith in rw e (set-get_or row j 0)

-- no two rows are counted on to the same
pub counted-once : (j start k : ℕ) → j < k → (x y : List ℕ) → length x ≡ k → length y ≡ k → counted_on j start x ≡ counted_on j start y → x ≡ y
counted-once j start k h x y lx ly e =
    ext_get_or 0 x y (lx ∙ sym ly)
    (here-or-else j (λ m. m < length x → get_or x m 0 ≡ get_or y m 0)
    (λ l. omega (arith, counted-here j start x (omega arith), counted-here j start y (omega arith), ap (λ (r : List ℕ). get_or r j 0) e))
    (λ m n l. sym (counted-else j start x m n) ∙ (ap (λ (r : List ℕ). get_or r m 0) e ∙ counted-else j start y m n)))
