-- What any page call, accepted or refused, keeps: its budget, and the length of its table and its counter.
use mathlib.Core.Path.{◌≡◌, refl, ap, ◌∙◌}
use Prim.Native.Nat.{ℕ, zero, suc, ◌≤◌}
use native.Mathlib.Omega.{arith}
use lib.ListN.{length}
use Rattle.lists.specs.Lists.{list_in}
use Rattle.plan.specs.Plan.{Typed}
use Rattle.search.specs.Traversal.{row_of}
use Rattle.search.proofs.Paging.{page-budget}
use Rattle.paging.specs.Cursors.{resume}
use Rattle.paging.specs.Pages.{room}
use Rattle.paging.specs.Calls.{page_call}
use Rattle.paging.specs.Inner.{page_call_on}
use Rattle.paging.specs.Theorems.{Call, overlay_at, cause, answer, table_after, counted}
use Rattle.paging.proofs.Theorems.{answers, page-left}

module _ (x : Call) where
  -- "No call reports more trials than its budget."
  pub probes-few : (answer x).probes ≤ x.budget
  unfolding page_call
  probes-few = go (cause x)
    where
      go : (n : ℕ) → (page_call_on (overlay_at x) n x.ticket x.budget x.table).probes ≤ x.budget
      go zero = page-budget row_of x.budget (room (overlay_at x) x.table) (list_in (resume (overlay_at x) x.ticket.cursor))
      go (suc n) = omega arith

  module _ (typed : Typed x.shape) where
    pub table-long : length (table_after x) ≡ length x.table
    table-long = go (cause x) refl
      where
        go : (n : ℕ) → cause x ≡ n → length (table_after x) ≡ length x.table
        go zero e = (page-left x typed e).2.long
        go (suc n) e = ap length (answers.page_refused x n e).1

    pub counter-long : length x.counter ≡ 1 → length (counted x) ≡ 1
    counter-long h = go (cause x) refl
      where
        go : (n : ℕ) → cause x ≡ n → length (counted x) ≡ 1
        go zero e = ap length (page-left x typed e).2.counter
        go (suc n) e = ap length (answers.page_refused x n e).2 ∙ h
