-- What one accepted page call did.
use mathlib.Core.Path.{◌≡◌, refl, ap, ◌∙◌}
use mathlib.Core.List.{List}
use mathlib.Core.Option.{some}
use mathlib.Core.Logic.{inl, inr, ⊎_elim}
use Prim.Native.Nat.{ℕ, ◌<◌}
use native.Mathlib.Omega.{arith}
use lib.ListN.{length, drop, length-map}
use Rattle.lists.specs.Lists.{All}
use Rattle.lists.proofs.Lists.{all_of_map}
use Rattle.search.specs.Traversal.{Probe, Row, row_of}
use Rattle.search.specs.Paging.{Paged, page}
use Rattle.search.proofs.Paging.{page-rows, page-room, page-ended, page-going, page-rest, page-stops, page-full, page-spent}
use Rattle.search.specs.Stops.{Full, Spent}
use Rattle.walk.specs.Walk.{places_of}
use Rattle.paging.specs.Overlays.{Overlay}
use Rattle.paging.specs.Cursors.{resume, due_cursor}
use Rattle.rows.specs.Tables.{fill, rows_in}
use Rattle.paging.specs.Pages.{room, page_of}
use Rattle.paging.specs.Theorems.{Call, cause, answer, table_after, Due, PageHolds}
use Rattle.paging.proofs.Overlays.{placed, Lawful}
use Rattle.paging.proofs.Tables.{places-filled}
use Rattle.rows.proofs.Tables.{fill-long, fill-kept}
use Rattle.paging.proofs.Calls.{Serves, page-long}

module _ {S : Type 0} (o : Overlay S) (l : Lawful o) (x : Call) (v : Serves o x) (w : List (Probe S)) (e : cause x ≡ 0) (r : resume o x.ticket.cursor ≡ some w) (due : (d : ℕ) → Due o.sizes (due_cursor o.sizes (drop d w)) (drop d w)) where
  -- the page over what is left
  abbrev its : Paged (Probe S) (Row S)
  its = page row_of x.budget (room o x.table) w

  -- the call answers it
  its-answer : answer x ≡ page_of o x.ticket.count its
  its-answer = v.page e ∙ rw r

  -- its rows fill the table
  its-table : table_after x ≡ fill (placed o its.rows) x.table
  its-table = v.table e ∙ rw r

  -- each of them has k places
  its-long : All (λ r. length (places_of o.sizes r) ≡ length o.sizes) its.rows
  its-long = rw r at (page-long o l x)

  -- what 01 says of the call
  pub page-holds : PageHolds o x w (answer x) (table_after x)
  page-holds = record {
    rows = rw (its-answer, its-table) (filled ∙ ap (placed o) (page-rows row_of b m w));
    stops = rw its-answer (⊎_elim (λ e. inl (e, (page-ended row_of b m w).0 e)) (⊎_elim (λ e. inr (inl (full e))) (λ e. inr (inr (spent e)))) (page-stops row_of b m w));
    going = rw its-answer (page-going row_of b m w);
    area = rw (its-answer, its-table, filled);
    ticket = rw its-answer (rw (page-rest row_of b m w) (due its.done), refl);
    counter = v.counted e ∙ rw (its-answer, r);
    long = let h = page-room row_of b m w in rw its-table (fill-long (length o.sizes) x.table long (rw length-map (omega (arith, h))));
    kept = rw (its-answer, its-table) (rw length-map at (fill-kept (length o.sizes) x.table long));
  }
    where
      b : ℕ
      b = x.budget

      m : ℕ
      m = room o x.table

      full : its.stop ≡ Full → (its.stop ≡ Full) × (its.done < length w) × (length its.rows ≡ m)
      full e = let h = (page-full row_of b m w).0 e in (e, h.0, h.1)

      spent : its.stop ≡ Spent → (its.stop ≡ Spent) × (its.done < length w) × (length its.rows < m) × (its.done ≡ b)
      spent e = let h = (page-spent row_of b m w).0 e in (e, h.0, h.1, h.2)

      filled : rows_in (length o.sizes) (length its.rows) (fill (placed o its.rows) x.table) ≡ placed o its.rows
      filled = places-filled o x.table its-long

      long : All (λ row. length row ≡ length o.sizes) (placed o its.rows)
      long = all_of_map (places_of o.sizes) its-long
