-- The promises on the row call hold of every sound plan, for every k.
use mathlib.Core.Path.{◌≡◌}
use mathlib.Core.List.{List}
use mathlib.Core.Bool.{true, false}
use mathlib.Core.Logic.{◌↔◌}
use Prim.Native.Nat.{ℕ, suc}
use native.Mathlib.Omega.{arith}
use lib.IntN.{ℤ}
use Rattle.lists.proofs.Tests.{never_true}
use Rattle.geometry.specs.Rectangles.{letter_of}
use Rattle.plan.specs.declared.Shape.{Shape}
use Rattle.plan.specs.Plan.{plan_cause, sizes_of, layers, Sound, grown}
use Rattle.plan.proofs.Growing.{framed}
use Rattle.plan.proofs.Spots.{layers-long}
use Rattle.join.specs.Join.{rects, InJoin, common_in, area_in, kind_in, guard_layer}
use Rattle.join.specs.Table.{plan_table}
use Rattle.rows.specs.RowCall.{is_row, row_call, common_call}
use Rattle.join.specs.Theorems.{IsTable}
use Rattle.join.proofs.Theorems.{tables}
use Rattle.rows.proofs.RowCall.{is-row}
use Rattle.rows.specs.Theorems.{Rows, RowsHold, Returned, all_zero}

module _ (s : Shape) (cells : List ℤ) (row : List ℕ) (sound : Sound s cells) where
  call-row : is_row (layers s cells) row ≡ true → let ls = layers s cells in
      Returned s cells row 0 (suc (guard_layer (rects ls row))) (area_in ls row) (letter_of (kind_in ls row)) (common_in ls row)
  unfolding row_call common_call
  call-row e = record { call = rw (sound.passed, e); common = rw (sound.passed, e) }

  call_none : is_row (layers s cells) row ≡ false → Returned s cells row 0 0 0 0 all_zero
  unfolding row_call common_call
  call_none e = record { call = rw (sound.passed, e); common = rw (sound.passed, e) }

rows-hold : (s : Shape) (cells : List ℤ) → Sound s cells → RowsHold s cells
rows-hold s cells sound = record {
  names = names;
  told = λ row m. call-row s cells row sound ((names row).1 (is.sound row m));
  others = λ row m. call_none s cells row sound (never_true (is_row (layers s cells) row) (λ e. m (is.complete row ((names row).0 e))));
}
  where
    is : IsTable (layers s cells) (plan_table s cells)
    is = (tables.tables (sizes_of s) (grown s cells) (framed s cells sound).1).is

    names : (row : List ℕ) → (is_row (layers s cells) row ≡ true) ↔ InJoin (layers s cells) row
    names = is-row (layers s cells) (omega (arith, layers-long (sizes_of s) (grown s cells), (framed s cells sound).1.some))

refusals : (s : Shape) (cells : List ℤ) (n : ℕ) → plan_cause s cells ≡ suc n → (row : List ℕ) → Returned s cells row (suc n) 0 0 0 all_zero
unfolding row_call common_call
refusals s cells n e row = record { call = rw e; common = rw e }

pub rows : Rows
rows = record { rows = rows-hold; refused = refusals }
