-- The calls' answers over any overlay, behind any cause of the checks before their own: what the code under them promises, by the words of Calls.antt. No
-- public call's contract cites this. `before` is the cause of the checks before a call's own, `cause` that of all its checks.
use Rattle.std.specs.Prelude.{List, [], ◌∷◌, map, ℕ, ◌+◌, ◌*◌, ℤ, leb, length, Err}
use Rattle.std.proofs.Math.Option.{Option}
use Rattle.lists.specs.Lists.{is_some, same}
use Rattle.plan.specs.Causes.{unless, ◌or_else◌, on_cause}
use Rattle.plan.specs.declared.Shape.{Shape}
use Rattle.plan.specs.Plan.{Layer, grown}
use Rattle.sweep.specs.Sweep.{sweep_order}
use Rattle.windows.specs.HoursCall.{hours_cause}
use Rattle.rows.specs.Tables.{fill}
use Rattle.walk.specs.Walk.{places_of}
use Rattle.paging.specs.declared.Ticket.{Ticket}
use Rattle.paging.specs.Answers.{PageValues, Run, ran}
use Rattle.paging.specs.Overlays.{Overlay}
use Rattle.paging.specs.Cursors.{resume}
use Rattle.paging.specs.Pages.{room, paged, area_sum, page_of}
use Rattle.paging.specs.Calls.{current, refused_page, ground_once}

-- the cause of the checks that page call and whole run begin with: 1 2 17 3 4, 24 where it is timed, and 5
abbrev pub cause_before : (windows : Option (List ℕ)) → Shape → List ℤ → (order : List ℕ) → ℕ
cause_before windows s cells order = hours_cause windows s cells or_else unless (same order (sweep_order (grown s cells))) 5

module _ {S : Type 0} (o : Overlay S) where
  -- ---- the page call
  abbrev pub page_cause_on : (before : ℕ) → Ticket → List ℕ → ℕ
  page_cause_on before t counter = before or_else unless (is_some (resume o t.cursor)) 6 or_else unless (current t.count counter) 18

  abbrev pub page_call_on : (cause : ℕ) → Ticket → ℕ → List ℕ → PageValues
  page_call_on cause t budget table = on_cause cause (page_of o t.count (paged o t.cursor budget table)) (refused_page t)

  abbrev pub page_counter_on : (cause : ℕ) → Ticket → List ℕ → ℕ → List ℕ → List ℕ
  page_counter_on cause t counter budget table = on_cause cause ((t.count + (paged o t.cursor budget table).done) ∷ []) (λ n. counter)

  abbrev pub page_table_on : (cause : ℕ) → Ticket → ℕ → List ℕ → List ℕ
  page_table_on cause t budget table = on_cause cause (fill (map (places_of o.sizes) (paged o t.cursor budget table).rows) table) (λ n. table)

  -- ---- the whole run
  abbrev pub run_cause_on : (before : ℕ) → List ℕ → (work : ℕ) → ℕ
  run_cause_on before table work = before or_else unless (leb (length o.table) (room o table)) 7 or_else unless (leb (2 * length o.table) work) 19

  abbrev pub run_call_on : (cause : ℕ) → List Layer → Run
  run_call_on cause ls = on_cause cause (ran (length o.table) (length o.walk) (area_sum o o.table) (ground_once ls o.table)) Err

  abbrev pub run_table_on : (cause : ℕ) → List ℕ → List ℕ
  run_table_on cause table = on_cause cause (fill o.table table) (λ n. table)
