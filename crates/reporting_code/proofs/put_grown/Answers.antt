-- `put_grown` puts the lines of the grown plan's rows.
use mathlib.Core.Path.{sym, ap, subst}
use mathlib.Core.List.{List, ◌++◌}
use Prim.Native.Nat.{ℕ}
use lib.IntN.{ℤ}
use Rattle.totals.specs.declared.Total.{Total}
use Rattle.plan.specs.declared.Shape.{Shape}
use Rattle.plan.specs.Plan.{layers_of, sizes_of}
use Rattle.rows.specs.Tables.{rows_in}
use Rattle.rows.specs.inner.TableRows.{TableRows}
use Rattle.printing.specs.Lines.{row_lines, total_line}
use Rattle.printing.specs.inner.Parts.{FitsAt}
use Rattle.printing.proofs.Puts.{put_same}
use Rattle.reporting_code.proofs.put_grown.Goals as goal

-- what is put, of these cells
abbrev lines : Shape → List ℤ → List ℕ → (rows probes : ℕ) → Total → List ℕ
lines s l table rows probes total = row_lines (layers_of (sizes_of s) l) (rows_in s.k rows table) ++ total_line rows probes total

pub put_table-requires : goal.put_table-requires
put_table-requires c =
    let e = sym c.grown_cells-grown.ensures.is in record {
      table_rows = (subst (λ (l : List ℤ). TableRows c.args.shape.sizes c.args.shape.k l c.args.table.now c.args.rows) e c.requires.sound.1, c.requires.sound.2);
      fits_at = subst (λ (l : List ℤ). FitsAt c.args.out.now 0 (lines c.args.shape l c.args.table.now c.args.rows c.args.probes c.args.total)) e c.requires.fits_at;
    }

pub returns : goal.returns
returns c = put_same _ _ _ _ _ _ c.put_table.ensures (ap (λ (l : List ℤ). lines c.args.shape l c.args.table.now c.args.rows c.args.probes c.args.total) (sym c.grown_cells-grown.ensures.is))
