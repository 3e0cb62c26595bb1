-- Laws of the lines of `nearest`: their parts and their lengths, and the loop over layers.
use mathlib.Core.Path.{◌≡◌}
use mathlib.Core.List.{List, [], ◌∷◌, ◌++◌}
use Prim.Native.Nat.{ℕ, suc, ◌+◌, ◌-◌, ◌*◌, ◌/◌, ◌≤◌, ◌<◌}
use native.Mathlib.Nat.{mul-le-mul_right}
use native.Mathlib.Numerals.{add-one}
use native.Mathlib.Omega.{arith}
use lib.ListN.{length, get_or, length-append}
use Rattle.lists.specs.Lists.{each}
use Rattle.lists.proofs.Kept.{each-short}
use Rattle.decimal.specs.Numerals.{digits, decimal}
use Rattle.decimal.proofs.Numerals.{length-decimal, size-most}
use Rattle.nearest.specs.declared.Near.{Near}
use Rattle.nearest.specs.Nearest.{nothing}
use Rattle.printing.specs.Lines.{fields_end, line_of, square_metres}
use Rattle.pens.specs.declared.Pen.{Pen}
use Rattle.pens.specs.Pens.{RoomFor, wrote}
use Rattle.pens.proofs.Pens.{Due, due-all, due-room, due-then, due-none}
use Rattle.std.specs.Prelude.{Option, Some, None}
use Rattle.asking.specs.Roots.{root}
use Rattle.asking.specs.Lines.{millimetres, near_line, near_lines}

-- ---- lengths: no number has more than twenty digits
pub few : (n : ℕ) → length (decimal n) ≤ 20
few n = omega (arith, length-decimal n, size-most 19 n)

gap-few : (gap : ℕ) → length (fields_end (millimetres gap ∷ [])) ≤ 25
unfolding square_metres
gap-few gap =
    let h = root (10000 * gap) in
    omega (arith, few (h / 100), length-append (decimal (h / 100)) (46 ∷ digits 2 h), length-append (decimal (h / 100) ++ 46 ∷ digits 2 h) (10 ∷ []))

near-few : (layer : ℕ) (e : Option Near) → length (near_line layer e) ≤ 100
unfolding near_line line_of
near-few layer (Some e) = omega (
  arith,
  few layer,
  few e.place,
  few e.gap,
  gap-few e.gap,
  length-append (decimal layer) (fields_end (decimal e.place ∷ decimal e.gap ∷ millimetres e.gap ∷ [])),
  length-append (decimal e.place) (fields_end (decimal e.gap ∷ millimetres e.gap ∷ [])),
  length-append (decimal e.gap) (fields_end (millimetres e.gap ∷ [])),
)
near-few layer None = omega (arith, few layer, length-append (decimal layer) (10 ∷ []))

pub nears-few : (k : ℕ) (es : List (Option Near)) → k ≤ 6 → length (near_lines k es) ≤ 600
nears-few k es h = omega (arith, each-short (λ j. near_line (suc j) (get_or es j nothing)) 100 0 k (λ j. near-few (suc j) (get_or es j nothing)), mul-le-mul_right 100 h)

-- ---- the loop over layers
module _ (k : ℕ) (es : List (Option Near)) (first : Pen) where
  -- the lines of the layers from j on
  abbrev from-layer : ℕ → List ℕ
  from-layer j = each (λ i. near_line (suc i) (get_or es i nothing)) j (k - j)

  -- those before are written, and these are left
  pub record Unput (pen : Pen) (j : ℕ) : Type 0 where
    pub within : j ≤ k
    pub left : Due first (near_lines k es) pen (from-layer j)

  pub none-put : RoomFor first (near_lines k es) → Unput first 0
  none-put h = let z : k - 0 ≡ k = omega arith in record { within = omega arith; left = rw z (due-all _ _ h) }

  module _ (pen : Pen) (j : ℕ) (u : Unput pen j) where
    pub all-put : k ≤ j → pen ≡ wrote first (near_lines k es)
    all-put h = let z : k - j ≡ 0 = omega arith in due-none _ _ _ (rw z at u.left)

    module _ (h : j < k) (e : Option Near) (is : e ≡ get_or es j nothing) where
      left : Due first (near_lines k es) pen (near_line (j + 1) e ++ from-layer (j + 1))
      left = let z : k - j ≡ suc (k - (j + 1)) = omega arith in rw (is, add-one) (rw (z, add-one) at u.left)

      pub next-room : RoomFor pen (near_line (j + 1) e)
      next-room = due-room _ _ _ (near_line (j + 1) e) _ left

      pub next-put : (q : Pen) → q ≡ wrote pen (near_line (j + 1) e) → Unput q (j + 1)
      next-put q p = record { within = omega arith; left = due-then _ _ _ (near_line (j + 1) e) _ q left p }
