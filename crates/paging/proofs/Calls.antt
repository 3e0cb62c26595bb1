-- One page call on an overlay: what it answers and leaves in its table, as the search's page.
use mathlib.Core.Path.{◌≡◌, refl}
use mathlib.Core.List.{List, [], ◌∷◌, map}
use mathlib.Core.Option.{Option, none, some}
use mathlib.Core.Bool.{Bool, ◌&&◌}
use Prim.Native.Nat.{ℕ, zero, suc, ◌+◌}
use native.Mathlib.Omega.{arith}
use lib.Dec.{eqb, ltb}
use lib.ListN.{length}
use borrow.Author.Tests.{ne_eqb, eq-eqb}
use Rattle.lists.specs.Lists.{All, none_left, sum, list_in}
use Rattle.totals.specs.Totals.{total_of, value_of}
use Rattle.totals.proofs.Totals.{value-total}
use Rattle.search.specs.Traversal.{Probe, Row, row_of}
use Rattle.search.specs.Paging.{Paged, page}
use Rattle.search.proofs.Chains.{accepts, done_in}
use Rattle.search.proofs.Chains as Search
use Rattle.search.proofs.Paging.{page-all}
use Rattle.walk.specs.Walk.{places_of}
use Rattle.paging.specs.Overlays.{Overlay}
use Rattle.paging.specs.Cursors.{due_cursor, resume}
use Rattle.rows.specs.Tables.{fill, rows_in}
use Rattle.paging.specs.Pages.{room, paged, page_of}
use Rattle.paging.specs.Theorems.{Call, cause, answer, table_after, counted}
use Rattle.paging.proofs.Overlays.{placed, Lawful, walk-long}
use Rattle.paging.proofs.Resume.{resume-is}
use Rattle.paging.proofs.Tables.{places-filled}

-- the page, where no cause refuses it
abbrev pub page_if : {S : Type 0} → ℕ → Paged (Probe S) (Row S) → Option (Paged (Probe S) (Row S))
page_if zero p = some p
page_if (suc cause) p = none

module _ {S : Type 0} (o : Overlay S) where
  -- the page that a call is due
  abbrev pub page_on : Call → Paged (Probe S) (Row S)
  page_on x = paged o x.ticket.cursor x.budget x.table

  -- what the search's calls answer
  abbrev pub answered : Call → Option (Paged (Probe S) (Row S))
  answered x = page_if (cause x) (page_on x)

  -- the rows that a call hands out
  abbrev pub rows_from : Call → List (List ℕ)
  rows_from x = rows_in (length o.sizes) (answer x).rows (table_after x)

  -- the call allows a probe and a row
  abbrev pub allows : Call → Bool
  allows x = ltb 0 x.budget && ltb 0 (room o x.table)

  -- an accepted call brings the counter of its ticket, answers its page, fills its table with it and counts it; a refused one reports nothing
  pub record Serves (x : Call) : Type 0 where
    pub counter : cause x ≡ 0 → x.counter ≡ x.ticket.count ∷ []
    pub counted : cause x ≡ 0 → counted x ≡ (x.ticket.count + (page_on x).done) ∷ []
    pub page : cause x ≡ 0 → answer x ≡ page_of o x.ticket.count (page_on x)
    pub table : cause x ≡ 0 → table_after x ≡ fill (placed o (page_on x).rows) x.table
    pub none : (cause x ≡ 0 → ⊥) → ((answer x).probes ≡ 0) × ((answer x).rows ≡ 0) × ((answer x).area ≡ total_of 0)

  -- the call answers what the search's call does
  pub record Agrees (x : Call) : Type 0 where
    pub probes : (answer x).probes ≡ done_in (answered x)
    pub rows : rows_from x ≡ placed o (Search.rows_in (answered x))
    pub area : value_of (answer x).area ≡ sum (map o.area (rows_from x))
    pub allowed : (eqb (cause x) 0 && allows x) ≡ (accepts (answered x) && allows x)
    pub stop : cause x ≡ 0 → (answer x).stop ≡ (page_on x).stop
    pub ticket : cause x ≡ 0 → (answer x).ticket ≡ record { cursor = due_cursor o.sizes (page_on x).rest; count = x.ticket.count + (answer x).probes }

  -- ---- refused
  -- a refused call answers no page
  pub answered-none : (x : Call) → (cause x ≡ 0 → ⊥) → answered x ≡ none
  answered-none x n = go (cause x) n
    where
      go : (c : ℕ) → (c ≡ 0 → ⊥) → page_if c (page_on x) ≡ none
      go zero n = absurd (n refl)
      go (suc c) n = refl

  agrees-refused : (x : Call) → Serves x → (cause x ≡ 0 → ⊥) → Agrees x
  agrees-refused x v n =
      let h = v.none n in
      record {
        probes = rw (answered-none x n) h.0;
        rows = rw (answered-none x n, h.1);
        area = rw (h.1, h.2) (value-total 0);
        allowed = rw (ne_eqb (cause x) 0 n, answered-none x n);
        stop = λ z. absurd (n z);
        ticket = λ z. absurd (n z);
      }

  -- ---- accepted
  -- an accepted call answers its page
  pub answered-some : (x : Call) → cause x ≡ 0 → answered x ≡ some (page_on x)
  answered-some x e = rw e

  -- each row of a call's page has k places
  pub page-long : Lawful o → (x : Call) → All (λ r. length (places_of o.sizes r) ≡ length o.sizes) (page_on x).rows
  page-long l x = go (resume o x.ticket.cursor) refl
    where
      go : (w : Option (List (Probe S))) → resume o x.ticket.cursor ≡ w → All (λ r. length (places_of o.sizes r) ≡ length o.sizes) (page row_of x.budget (room o x.table) (list_in w)).rows
      go none e = none_left
      go (some w) e = let k = resume-is o x.ticket.cursor w e in page-all row_of x.budget (room o x.table) k.before w (rw k.splits (walk-long o l))

  agrees-accepted : Lawful o → (x : Call) → Serves x → cause x ≡ 0 → Agrees x
  agrees-accepted l x v e = record {
    probes = rw (v.page e, e);
    rows = rw (v.page e, v.table e, e) filled;
    area = rw (v.page e, v.table e, filled) (value-total _);
    allowed = rw (eq-eqb (cause x) 0 e, e);
    stop = λ z. rw (v.page e);
    ticket = λ z. rw (v.page e);
  }
    where
      filled : rows_in (length o.sizes) (length (page_on x).rows) (fill (placed o (page_on x).rows) x.table) ≡ placed o (page_on x).rows
      filled = places-filled o x.table (page-long l x)

  -- ---- each call
  pub agrees : Lawful o → (x : Call) → Serves x → Agrees x
  agrees l x v = go (cause x) refl
    where
      go : (c : ℕ) → cause x ≡ c → Agrees x
      go zero e = agrees-accepted l x v e
      go (suc c) e = agrees-refused x v (λ z. omega (arith, e))
