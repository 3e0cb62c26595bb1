-- `put_class_grown` puts the lines of the grown plan's rows.
use mathlib.Core.Path.{sym, ap, subst}
use mathlib.Core.List.{List, ◌++◌}
use Prim.Native.Nat.{ℕ}
use lib.IntN.{ℤ}
use Rattle.totals.specs.declared.Total.{Total}
use Rattle.plan.specs.declared.Shape.{Shape}
use Rattle.plan.specs.Plan.{layers_of, sizes_of}
use Rattle.plan.proofs.Growing.{part-long}
use Rattle.rows.specs.Tables.{rows_in}
use Rattle.rows.specs.inner.TableRows.{TableRows}
use Rattle.printing.specs.Lines.{total_line}
use Rattle.printing.specs.inner.Parts.{FitsAt}
use Rattle.printing.proofs.Puts.{put_same}
use Rattle.listing.specs.Lines.{classed_lines, class_lines}
use Rattle.listing_runs_code.proofs.class_runs.put_class_grown.Goals as goal

-- what is put, of these cells
abbrev lines : Shape → List ℤ → (table counts : List ℕ) → (rows probes : ℕ) → Total → List ℕ
lines s l table counts rows probes total =
    classed_lines (layers_of (sizes_of s) l) (rows_in s.k rows table) ++ (class_lines 0 counts ++ total_line rows probes total)

pub slice_bounds-put_class_table-end-2 : goal.slice_bounds-put_class_table-end-2
slice_bounds-put_class_table-end-2 c = part-long _ _ _ c.grow_plan.ensures

pub put_class_table-requires : goal.put_class_table-requires
put_class_table-requires c =
    let e = sym c.grow_plan.ensures.is in record {
      table_rows = (subst (λ (l : List ℤ). TableRows c.args.shape.sizes c.args.shape.k l c.args.table.now c.args.rows) e c.requires.sound.1, c.requires.sound.2, c.requires.sound.3);
      fits_at = subst (λ (l : List ℤ). FitsAt c.args.out.now 0 (lines c.args.shape l c.args.table.now c.args.counts.now c.args.rows c.args.probes c.args.total)) e c.requires.fits_at;
    }

pub returns : goal.returns
returns c =
    put_same _ _ _ _ _ _ c.put_class_table.ensures
    (ap (λ (l : List ℤ). lines c.args.shape l c.args.table.now c.args.counts.now c.args.rows c.args.probes c.args.total) (sym c.grow_plan.ensures.is))
