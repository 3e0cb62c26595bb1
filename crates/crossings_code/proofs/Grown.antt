-- Rows of cells that are grown already: no margin grows their rectangles again, so that rows and classes are the same.
use mathlib.Core.Path.{◌≡◌, sym, ap, ap₂, ◌∙◌}
use mathlib.Core.List.{List}
use mathlib.Core.Bool.{true, ◌&&◌}
use Prim.Native.Nat.{ℕ}
use lib.IntN.{ℤ}
use Rattle.geometry.specs.declared.Rect.{Rect}
use Rattle.geometry.specs.Rectangles.{nonempty}
use Rattle.plan.specs.Plan.{layers_of}
use Rattle.join.specs.Join.{rects, common_of}
use Rattle.rows.specs.RowCall.{fits, is_row}
use Rattle.rows.proofs.RowCall.{sizes-of}
use Rattle.rows_code.specs.Reading.{widened}
use Rattle.rows_code.proofs.Reading.{no_margins, rects-none}
use Rattle.crossings.specs.Crossings.{class_of, class_in}
use Rattle.crossings.proofs.Reading.{row_fits}

module _ (ns : List ℕ) (cells : List ℤ) (row : List ℕ) (is : is_row (layers_of ns cells) row ≡ true) where
  same : rects (layers_of ns (widened ns no_margins cells)) row ≡ rects (layers_of ns cells) row
  same = rects-none 0 ns cells row (row_fits ns cells row is)

  pub row-none : is_row (layers_of ns (widened ns no_margins cells)) row ≡ true
  unfolding is_row
  row-none =
      ap₂ ◌&&◌ (ap (λ (ms : List ℕ). fits ms row) (sizes-of ns (widened ns no_margins cells) ∙ sym (sizes-of ns cells))) (ap (λ (rs : List Rect). nonempty (common_of rs)) same) ∙ is

  pub class-none : (c : ℕ) → c ≡ class_in (layers_of ns (widened ns no_margins cells)) row → c ≡ class_in (layers_of ns cells) row
  class-none c e = e ∙ ap class_of same
