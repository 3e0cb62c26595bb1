-- What the fresh-ticket call, the page call and the whole run answer (01, "The walk" and "Causes and their numbers"), the last two in their timed form
-- too (02, Q-12). A counter is 02's run record (Q-5), a lent list of cells.
use Rattle.std.specs.Prelude.{List, [], ◌∷◌, map, Bool, ◌&&◌, ◌≡◌, ℕ, ◌+◌, ◌*◌, ℤ, eqb, leb, ltb, length, get_or, Ok, Err}
use Rattle.std.proofs.Math.Option.{Option}
use Rattle.lists.specs.Lists.{is_some, same}
use Rattle.totals.specs.declared.Total.{Total}
use Rattle.totals.specs.Totals.{total_of}
use Rattle.plan.specs.declared.Shape.{Shape}
use Rattle.plan.specs.Causes.{unless, ◌or_else◌, on_cause}
use Rattle.plan.specs.Plan.{Layer, layers, grown}
use Rattle.sweep.specs.Sweep.{sweep_order, order_cause}
use Rattle.ground.specs.Union.{union_of, grounds}
use Rattle.walk.specs.Walk.{places_of}
use Rattle.windows.specs.HoursCall.{hours_cause}
use Rattle.paging.specs.declared.Ticket.{Ticket}
use Rattle.search.specs.Stops.{Stop, Ended, Full, Spent, Refused}
use Rattle.paging.specs.Answers.{FreshValues, PageValues, Run, ran}
use Rattle.paging.specs.Overlays.{overlay, overlay_of}
use Rattle.paging.specs.Cursors.{ended_cursor, due_cursor, resume}
use Rattle.rows.specs.Tables.{fill}
use Rattle.paging.specs.Pages.{room, paged, area_sum, page_of}

-- ---- counters
-- 02: a run record "of one unsigned 64-bit cell"
abbrev pub one_cell : List ℕ → Bool
one_cell counter = eqb (length counter) 1

-- 2^57: a counter that a page call takes is below it
abbrev pub most_count : ℕ
most_count = 144115188075855872

-- the counter is that of a ticket with this count. Else 02: it "is not one cell, or for a page call holds 2^57 or more or differs from the ticket's count"
unfoldable pub current : (count : ℕ) → List ℕ → Bool
current count counter = one_cell counter && (ltb (get_or counter 0 0) most_count && eqb (get_or counter 0 0) count)

-- ---- the fresh-ticket call
module _ (s : Shape) (cells : List ℤ) (order counter : List ℕ) where
  -- its checks: 1 2 17 3 4 5, and 18 where, 02: "the record is not one cell"
  unfoldable pub fresh_cause : ℕ
  fresh_cause = order_cause s cells order or_else unless (one_cell counter) 18

  -- 01: "takes plan and order and returns the fresh ticket: the first trial, or Ended where the walk is empty"; a refusal returns Ended. No probe is done
  unfoldable pub fresh_call : FreshValues
  fresh_call =
      let o = overlay s cells in
      on_cause fresh_cause (record { number = 0; ticket = record { cursor = due_cursor o.sizes o.walk; count = 0 } })
      (λ n. record { number = n; ticket = record { cursor = ended_cursor; count = 0 } })

  -- the counter afterwards. 02: "A fresh start writes 0"; after a refusal "the record is left as it was"
  unfoldable pub fresh_counter : List ℕ
  fresh_counter = on_cause fresh_cause (0 ∷ []) (λ n. counter)

-- ---- the page call. 02, Q-12: "Only the whole run and the page call get a timed form": with `windows`, the lent cells of the plan's windows
-- 01's number of each stop: 0 where the call is accepted
abbrev pub stop_number : Stop → ℕ
stop_number Ended = 0
stop_number Full = 0
stop_number Spent = 0
stop_number (Refused cause) = cause

-- 01: "A refusal returns its number and 0 for all else; a page call also returns its ticket as given"
abbrev pub refused_page : Ticket → ℕ → PageValues
refused_page t cause = record { stop = Refused cause; rows = 0; probes = 0; area = total_of 0; ticket = t }

module _ (windows : Option (List ℕ)) (s : Shape) (cells : List ℤ) (order : List ℕ) (t : Ticket) (counter : List ℕ) where
  -- its checks: 1 2 17 3 4, 24 where it is timed, 5, then 6, which leaves the ticket's count aside, and 18. 02: "In a timed call 6, 7 and 19 speak of the
  -- timed walk and its rows."
  unfoldable pub page_cause : ℕ
  page_cause =
      let o = overlay_of windows s cells in
      hours_cause windows s cells or_else unless (same order (sweep_order (grown s cells))) 5
      or_else unless (is_some (resume o t.cursor)) 6 or_else unless (current t.count counter) 18

module _ (windows : Option (List ℕ)) (s : Shape) (cells : List ℤ) (order : List ℕ)
    (t : Ticket) (counter : List ℕ) (budget : ℕ) (table : List ℕ) where
  -- what it answers
  unfoldable pub page_call : PageValues
  page_call =
      let o = overlay_of windows s cells in
      on_cause (page_cause windows s cells order t counter) (page_of o t.count (paged o t.cursor budget table)) (refused_page t)

  -- the counter afterwards. 02: "an accepted page call writes the new count"; after a refusal "the record is left as it was"
  unfoldable pub page_counter : List ℕ
  page_counter =
      let o = overlay_of windows s cells in
      on_cause (page_cause windows s cells order t counter) ((t.count + (paged o t.cursor budget table).done) ∷ []) (λ n. counter)

  -- the table afterwards: filled with the page's rows, or after a refusal what it was
  unfoldable pub page_table : List ℕ
  page_table =
      let o = overlay_of windows s cells in let rows = (paged o t.cursor budget table).rows in
      on_cause (page_cause windows s cells order t counter) (fill (map (places_of o.sizes) rows) table) (λ n. table)

-- ---- the whole run
-- 02, Q-6: "the union of all rows' common ground", of rows of these layers
abbrev pub ground_once : List Layer → List (List ℕ) → Total
ground_once ls rows = total_of (union_of (grounds ls rows))

module _ (windows : Option (List ℕ)) (s : Shape) (cells : List ℤ) (order table : List ℕ) (work : ℕ) where
  -- its checks: 1 2 17 3 4, 24 where it is timed, 5, then 7 where "J has more rows than the table takes", and 19. 02, Q-6: "work buffer shorter than two
  -- cells a row, 19, after 7"; `work` is how many cells it has
  unfoldable pub run_cause : ℕ
  run_cause =
      let o = overlay_of windows s cells in
      hours_cause windows s cells or_else unless (same order (sweep_order (grown s cells))) 5 or_else unless (leb (length o.table) (room o table)) 7
      or_else unless (leb (2 * length o.table) work) 19

  -- 01: "returns rows, trials (the walk's length) and the area sum"; 02, Q-6: "The whole run returns this beside the area sum"
  unfoldable pub run_call : Run
  run_call =
      let o = overlay_of windows s cells in
      on_cause run_cause (ran (length o.table) (length o.walk) (area_sum o o.table) (ground_once (layers s cells) o.table)) Err

  -- the table afterwards: filled with all rows, or after a refusal what it was
  unfoldable pub run_table : List ℕ
  run_table = on_cause run_cause (fill (overlay_of windows s cells).table table) (λ n. table)

-- ---- the answers of runs
-- the work buffer afterwards. 02, Q-6: its "contents afterwards are free", its length is what it was; after a refusal it "too is then left as it was"
pub record WorkAfter (cause : ℕ) (before after : List ℤ) : Type 0 where
  pub long : length after ≡ length before
  pub kept : (cause ≡ 0 → ⊥) → after ≡ before

-- 01's number and values of each answer. 01: "A refusal returns its number and 0 for all else"
pub record RunValues : Type 0 where
  pub number : ℕ
  pub rows : ℕ
  pub probes : ℕ
  pub area : Total
  pub ground : Total

abbrev pub run_values : Run → RunValues
run_values (Err cause) = record { number = cause; rows = 0; probes = 0; area = total_of 0; ground = total_of 0 }
run_values (Ok done) = record { number = 0; rows = done.rows; probes = done.probes; area = done.area; ground = done.ground }
