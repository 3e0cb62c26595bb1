-- What a page call does, timed or not, on its own overlay, behind the cause of the checks before its own.
use mathlib.Core.Path.{◌≡◌, refl}
use mathlib.Core.List.{[], ◌∷◌}
use Prim.Native.Nat.{ℕ, zero, suc}
use Rattle.lists.specs.Lists.{is_some}
use Rattle.totals.specs.Totals.{total_of}
use Rattle.timed.specs.Timed.{Held}
use Rattle.paging.specs.Overlays.{Overlay}
use Rattle.paging.specs.Calls.{page_call, page_table, page_counter}
use Rattle.paging.specs.Inner.{page_call_on}
use Rattle.paging.specs.Theorems.{Call, overlay_at, cause}
use Rattle.paging.proofs.Calls.{Serves}
use Rattle.paging.proofs.Counters.{current-is}
use Rattle.paging.proofs.Causes.{first_of, page-passed}

module _ (x : Call) where
  abbrev its : Overlay (Held (is_some x.windows))
  its = overlay_at x

  -- it answers on its overlay
  pub serves-own : Serves its x
  unfolding page_call page_table page_counter
  serves-own = record {
    counter = λ e. current-is x.ticket.count x.counter (page-passed x e).2;
    counted = λ e. rw e;
    page = λ e. rw e;
    table = λ e. rw e;
    none = go (cause x);
  }
    where
      go : (c : ℕ) → (c ≡ 0 → ⊥) → let p = page_call_on its c x.ticket x.budget x.table in (p.probes ≡ 0) × (p.rows ≡ 0) × (p.area ≡ total_of 0)
      go zero n = absurd (n refl)
      go (suc c) n = (refl, refl, refl)

  -- an accepted call passes the checks before its own
  pub accepted-first : cause x ≡ 0 → first_of x ≡ 0
  accepted-first e = (page-passed x e).0

  -- brings the counter of its ticket
  pub accepted-counter : cause x ≡ 0 → x.counter ≡ x.ticket.count ∷ []
  accepted-counter = serves-own.counter

-- where it is refused, it answers nothing on any
pub serves-none : {S : Type 0} (o : Overlay S) (x : Call) → (cause x ≡ 0 → ⊥) → Serves o x
serves-none o x n =
    record { counter = λ e. absurd (n e); counted = λ e. absurd (n e); page = λ e. absurd (n e); table = λ e. absurd (n e); none = (serves-own x).none }
