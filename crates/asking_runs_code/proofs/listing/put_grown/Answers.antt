-- `put_grown` writes the lines of the grown plan's rows.
use mathlib.Core.Path.{sym, subst}
use mathlib.Core.List.{List}
use Prim.Native.Nat.{ℕ}
use lib.IntN.{ℤ}
use borrow.Author.Rules.{rules}
use Rattle.pens.specs.Pens.{place, capacity, wrote}
use Rattle.plan.specs.declared.Shape.{Shape}
use Rattle.plan.specs.Plan.{layers_of, sizes_of}
use Rattle.plan.proofs.Growing.{part-long}
use Rattle.rows.specs.Tables.{rows_in}
use Rattle.rows.specs.inner.TableRows.{TableRows}
use Rattle.printing.specs.inner.Parts.{FitsAt}
use Rattle.asking_runs_code.specs.Parts.{lines_of_two}
use Rattle.asking_runs_code.proofs.listing.put_grown.Goals as goal

-- what is put, of these cells
abbrev lines : Shape → List ℤ → (lower higher : ℕ) → (table : List ℕ) (rows : ℕ) → List ℕ
lines s l lower higher table rows = lines_of_two (layers_of (sizes_of s) l) lower higher (rows_in s.k rows table)

pub slice_bounds-put_pair_rows-end-2 : goal.slice_bounds-put_pair_rows-end-2
slice_bounds-put_pair_rows-end-2 c = part-long _ _ _ c.grow_plan.ensures

pub put_pair_rows-requires : goal.put_pair_rows-requires
unfolding place capacity
put_pair_rows-requires c =
    let e = sym c.grow_plan.ensures.is in record {
      table_rows = (subst (λ (l : List ℤ). TableRows c.args.shape.sizes c.args.shape.k l c.args.table.now c.args.rows) e c.requires.sound.1, c.requires.sound.2, c.requires.sound.3);
      room = (subst (λ (l : List ℤ). FitsAt c.args.out.now c.args.at (lines c.args.shape l c.args.lower c.args.higher c.args.table.now c.args.rows)) e c.requires.fits_at).fits;
    }

pub returns : goal.returns
unfolding wrote
returns c = rw (← c.grow_plan.ensures.is) (search rules)
