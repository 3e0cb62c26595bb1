-- `put_plan` draws the grown plan's rows.
use mathlib.Core.Path.{sym, ap, subst}
use mathlib.Core.List.{List}
use Prim.Native.Nat.{ℕ}
use lib.IntN.{ℤ}
use Rattle.plan.specs.declared.Shape.{Shape}
use Rattle.plan.specs.Plan.{layers_of, sizes_of}
use Rattle.plan.proofs.Growing.{part-long}
use Rattle.rows.specs.Tables.{rows_in}
use Rattle.rows.specs.inner.TableRows.{TableRows}
use Rattle.printing.specs.inner.Parts.{FitsAt}
use Rattle.printing.proofs.Puts.{put_same}
use Rattle.picture.specs.Frames.{ground_of, frame_of}
use Rattle.picture.specs.Pictures.{picture_of}
use Rattle.picture_code.proofs.drawing.put_plan.Goals as goal

-- what is drawn, with these grown cells
abbrev drawn : Shape → (cells run : List ℤ) (table : List ℕ) (rows : ℕ) → List ℕ
drawn s cells run table rows = picture_of (frame_of (ground_of run)) s.margins (layers_of (sizes_of s) cells) (layers_of (sizes_of s) run) (rows_in s.k rows table)

pub slice_bounds-put_over-end : goal.slice_bounds-put_over-end
slice_bounds-put_over-end c = part-long _ _ _ c.grow_plan.ensures

pub put_over-requires : goal.put_over-requires
put_over-requires c =
    let e = sym c.grow_plan.ensures.is in record {
      sound = (c.requires.sound.0, c.grow_plan.ensures.is, subst (λ (l : List ℤ). TableRows c.args.shape.sizes c.args.shape.k l c.args.table.now c.args.rows) e c.requires.sound.1, c.requires.sound.2);
      fits_at = subst (λ (l : List ℤ). FitsAt c.args.out.now 0 (drawn c.args.shape c.args.cells.now l c.args.table.now c.args.rows)) e c.requires.fits_at;
    }

pub returns : goal.returns
returns c = put_same _ _ _ _ _ _ c.put_over.ensures (ap (λ (l : List ℤ). drawn c.args.shape c.args.cells.now l c.args.table.now c.args.rows) (sym c.grow_plan.ensures.is))
