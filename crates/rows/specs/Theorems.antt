-- Theorem: what the row call and the call for a row's common ground return for cells that name a row of the table, and for all others. Proved in
-- proofs/Theorems.antt.
use Rattle.std.specs.Prelude.{◌≡◌, true, ◌↔◌, ℕ, suc, ℤ, pos}
use mathlib.Core.List.{List, Memᴰ}
use Rattle.geometry.specs.declared.Rect.{Rect}
use Rattle.geometry.specs.Rectangles.{letter_of}
use Rattle.plan.specs.declared.Shape.{Shape}
use Rattle.plan.specs.Plan.{layers, plan_cause, Sound}
use Rattle.join.specs.Join.{InJoin, common_in, area_in, kind_in, guard_of}
use Rattle.join.specs.Table.{plan_table}
use Rattle.rows.specs.RowCall.{is_row, row_call, row_values, common_call, common_values}

-- what both calls return: the number, the guard's layer and the area; the number, the letter of the kind and the rectangle
pub record Returned (s : Shape) (cells : List ℤ) (row : List ℕ) (number layer area kind : ℕ) (ground : Rect) : Type 0 where
  pub call : row_values (row_call s cells row) ≡ record { number = number; layer = layer; area = area }
  pub common : common_values (common_call s cells row) ≡ record { number = number; kind = kind; common = ground }

-- 0 for each of the four sides
abbrev pub all_zero : Rect
all_zero = record { left = pos 0; bottom = pos 0; right = pos 0; top = pos 0 }

pub record RowsHold (s : Shape) (cells : List ℤ) : Type 0 where
  -- the calls' test is membership in J
  pub names : (row : List ℕ) → (is_row (layers s cells) row ≡ true) ↔ InJoin (layers s cells) row
  -- of a row they return the guard's layer, from 1, and the area; 02, Q-7: the letter of its kind, which is never 0 (geometry, `letters`), and its ground
  pub told : (row : List ℕ) → Memᴰ row (plan_table s cells) → let ls = layers s cells in
      Returned s cells row 0 (suc (guard_of ls row).layer) (area_in ls row) (letter_of (kind_in ls row)) (common_in ls row)
  -- ... and 0 for all else
  pub others : (row : List ℕ) → (Memᴰ row (plan_table s cells) → ⊥) → Returned s cells row 0 0 0 0 all_zero

pub record Rows : Type 0 where
  pub rows : (s : Shape) (cells : List ℤ) → Sound s cells → RowsHold s cells
  -- 01: "A refusal returns its number and 0 for all else"
  pub refused : (s : Shape) (cells : List ℤ) (n : ℕ) → plan_cause s cells ≡ suc n → (row : List ℕ) → Returned s cells row (suc n) 0 0 0 all_zero
