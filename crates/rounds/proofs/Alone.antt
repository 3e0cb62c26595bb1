-- A page call looks at its table's length alone: with another table as long, it answers the same and puts out the same rows.
use mathlib.Core.Path.{◌≡◌, sym, ap, ◌∙◌, subst}
use mathlib.Core.List.{List, map}
use Prim.Native.Nat.{ℕ}
use lib.ListN.{length, take, drop}
use Rattle.plan.specs.Plan.{Typed}
use Rattle.plan.proofs.Theorems.{plans}
use Rattle.search.specs.Traversal.{row_of}
use Rattle.search.specs.Paging.{rows_of}
use Rattle.walk.specs.Walk.{places_of}
use Rattle.paging.specs.Calls.{page_call}
use Rattle.paging.specs.Theorems.{Call, overlay_at, cause, answer, table_after}
use Rattle.rows.specs.Tables.{rows_in}
use Rattle.paging.proofs.Causes.{sound-of}
use Rattle.paging.proofs.Overlays.{sizes-same}
use Rattle.paging.proofs.Serving.{accepted-first}
use Rattle.paging.proofs.Theorems.{answers, page-left}

module _ (x : Call) (l : List ℕ) (e : length l ≡ length x.table) where
  -- the call with the table l
  abbrev pub other : Call
  other = record { shape = x.shape; cells = x.cells; windows = x.windows; order = x.order; ticket = x.ticket; counter = x.counter; budget = x.budget; table = l }

  pub answer-alone : answer other ≡ answer x
  unfolding page_call
  answer-alone = rw e

  -- what is left of the walk at its ticket is the same for both
  pub rows-alone : Typed x.shape → cause x ≡ 0 → rows_in x.shape.k (answer x).rows (table_after other) ≡ rows_in x.shape.k (answer x).rows (table_after x)
  rows-alone typed a =
      let o = overlay_at x in
      let sound = sound-of x.windows x.shape x.cells x.order typed (accepted-first x a) in
      let h = page-left x typed a in
      let many : length o.sizes ≡ x.shape.k = ap length (sizes-same x.windows x.shape x.cells) ∙ (plans.frames x.shape x.cells sound).2 in
      let r : rows_in (length o.sizes) (answer other).rows (table_after other) ≡ map (places_of o.sizes) (rows_of row_of (take (answer other).probes (drop h.0 o.walk))) = (answers.page other h.0 typed a h.1).rows in
      let p : rows_in (length o.sizes) (answer x).rows (table_after other) ≡ map (places_of o.sizes) (rows_of row_of (take (answer x).probes (drop h.0 o.walk))) = rw answer-alone at r in
      subst (λ (k : ℕ). rows_in k (answer x).rows (table_after other) ≡ rows_in k (answer x).rows (table_after x)) many (p ∙ sym h.2.rows)
