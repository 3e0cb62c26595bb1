-- What accepted whole runs hand out and return is the table and the sum of its areas, so the laws of tables are laws of runs.
use mathlib.Core.Path.{◌≡◌, refl, sym, ap, ap₂, ◌∙◌}
use mathlib.Core.List.{List, ◌++◌, map}
use mathlib.Core.Option.{none}
use Prim.Native.Nat.{ℕ, ◌+◌, ◌*◌, ◌/◌, ◌≤◌, min}
use native.Mathlib.Omega.{arith}
use lib.ListN.{length}
use Rattle.plan.proofs.Theorems.{plans}
use Rattle.plan.specs.Plan.{grown}
use Rattle.sweep.specs.Sweep.{sweep_order, order_cause}
use Rattle.sweep.proofs.Theorems.{order-passed}
use Rattle.windows.specs.HoursCall.{hours_cause}
use Rattle.totals.specs.Totals.{total_of, value_of}
use Rattle.totals.proofs.Totals.{value-total}
use Rattle.paging.specs.Answers.{Run}
use Rattle.paging.specs.Overlays.{overlay}
use Rattle.paging.specs.Pages.{room}
use Rattle.paging.specs.Calls.{run_cause, run_call, run_table, run_values}
use Rattle.rows.specs.Tables.{rows_in}
use Rattle.paging.specs.Theorems.{RunHolds}
use Rattle.paging.proofs.Causes.{run-told, sound-ordered}
use Rattle.paging.proofs.Runs.{run_holds}
use Rattle.symmetry.specs.Plans.{Plan, arranged_row, counted_on}
use Rattle.symmetry.specs.Theorems.{Accepted, table_in, areas_in, union_in, SameSet, AcceptedToo, Rearranged, Cut, Lent, Ran, run_answer, handed_out}

module _ (p : Plan) (l : Lent) (r : Ran p l) where
  -- the order is right, the table takes all rows, and the work buffer has two cells for each
  passed : (order_cause p.shape p.cells l.order ≡ 0) × (length (table_in p) ≤ room (overlay p.shape p.cells) l.table) × (2 * length (table_in p) ≤ l.work)
  unfolding order_cause hours_cause
  passed = (run-told none p.shape p.cells l.order l.table l.work).none.0 r.1

  holds : RunHolds p.shape p.cells (overlay p.shape p.cells) l.table (run_cause none p.shape p.cells l.order l.table l.work) (run_call none p.shape p.cells l.order l.table l.work) (run_table none p.shape p.cells l.order l.table l.work)
  holds = run_holds p.shape p.cells l.order l.table l.work (sound-ordered p.shape p.cells l.order r.0 passed.0) passed.0 passed.2

  run-count : (run_answer p l).rows ≡ length (table_in p)
  run-count = ap (λ (v : Run). (run_values v).rows) (holds.done r.1)

  run-rows : handed_out p l ≡ table_in p
  run-rows = ap (λ (n : ℕ). rows_in p.shape.k n (run_table none p.shape p.cells l.order l.table l.work)) run-count ∙ holds.rows r.1

  run-area : (run_answer p l).area ≡ total_of (areas_in p)
  unfolding total_of
  run-area = ap (λ (v : Run). (run_values v).area) (holds.done r.1)

  run-areas : value_of (run_answer p l).area ≡ areas_in p
  run-areas = ap value_of run-area ∙ value-total (areas_in p)

  run-ground : (run_answer p l).ground ≡ total_of (union_in p)
  unfolding total_of
  run-ground = ap (λ (v : Run). (run_values v).ground) (holds.done r.1)

  run-accepted : Accepted p
  run-accepted = record { typed = r.0; passed = ((order-passed p.shape p.cells l.order).0 passed.0).0 }

-- how many rows a table takes goes by k alone
room-k : (p q : Plan) (t : List ℕ) → Accepted p → Accepted q → q.shape.k ≡ p.shape.k → room (overlay p.shape p.cells) t ≡ room (overlay q.shape q.cells) t
room-k p q t a b e =
    ap (λ (k : ℕ). min (length t / k) 1000000) ((plans.frames p.shape p.cells a).2 ∙ (sym e ∙ sym (plans.frames q.shape q.cells b).2))

-- what suffices for a plan suffices for one of as many layers and no more rows
pub runs-too : (p q : Plan) (l : Lent) → AcceptedToo p q → length (table_in q) ≤ length (table_in p) → Ran p l
    → Ran q (record { order = sweep_order (grown q.shape q.cells); table = l.table; work = l.work })
unfolding order_cause hours_cause
runs-too p q l (e, b) h r = (
  b.typed,
  (run-told none q.shape q.cells (sweep_order (grown q.shape q.cells)) l.table l.work).none.1 (
    (order-passed q.shape q.cells (sweep_order (grown q.shape q.cells))).1 (b.passed, refl),
    omega (arith, (passed p l r).1, room-k p q l.table (run-accepted p l r) b e),
    omega (arith, (passed p l r).2),
  ),
)

pub runs-rearranged : (places : List ℕ) (p q : Plan) (l m : Lent) → Rearranged places p q → Ran p l → Ran q m
    → SameSet (handed_out q m) (map (arranged_row places) (handed_out p l)) × ((run_answer q m).area ≡ (run_answer p l).area) × ((run_answer q m).ground ≡ (run_answer p l).ground)
runs-rearranged places p q l m h r s = (
  rw (run-rows p l r, run-rows q m s) h.rows,
  run-area q m s ∙ (ap total_of h.areas ∙ sym (run-area p l r)),
  run-ground q m s ∙ (ap total_of h.union ∙ sym (run-ground p l r)),
)

pub runs_cut : (j m n : ℕ) (p one two : Plan) (l a b : Lent) → Cut j m n p one two → Ran p l → Ran one a → Ran two b
    → SameSet (handed_out p l) (handed_out one a ++ map (counted_on j m) (handed_out two b)) × (value_of (run_answer one a).area + value_of (run_answer two b).area ≡ value_of (run_answer p l).area)
runs_cut j m n p one two l a b c r s z = (
  rw (run-rows p l r, run-rows one a s, run-rows two b z) c.rows,
  ap₂ ◌+◌ (run-areas one a s) (run-areas two b z) ∙ (c.areas ∙ sym (run-areas p l r)),
)
