-- Theorem: what each call answers: the causes that refuse it, what a cursor says, a page, a whole run. Demand 3, which is of lists of calls, stands on it in
-- the crate demands. Proved in proofs/Theorems.antt. `takes`, `no_trial` and the bound of a counter repeat definitions on purpose, in the papers' figures.
use Rattle.std.specs.Prelude.{◌≡◌, List, [], ◌∷◌, map, true, false, ◌↔◌, ◌⊎◌, ℕ, suc, ◌+◌, ◌*◌, ◌/◌, ◌≤◌, ◌<◌, min, ℤ, length, get_or, take, drop, Ok, Err}
use Rattle.std.proofs.Math.Option.{Option, none, some}
use Rattle.lists.specs.Lists.{sum, is_some}
use Rattle.totals.specs.declared.Total.{Total}
use Rattle.totals.specs.Totals.{total_of}
use Rattle.plan.specs.declared.Shape.{Shape}
use Rattle.plan.specs.declared.cause.Cause.{Cause}
use Rattle.plan.specs.Causes.{number_of, Check, Passed}
use Rattle.plan.specs.Plan.{grown, layers, Typed, Sound}
use Rattle.plan.specs.Spots.{spot_of}
use Rattle.plan.specs.Theorems.{PlanChecks}
use Rattle.sweep.specs.Sweep.{sweep_order}
use Rattle.rows.specs.Tables.{rows_in}
use Rattle.ground.specs.Union.{union_of, grounds}
use Rattle.search.specs.Traversal.{Probe, row_of}
use Rattle.search.specs.Paging.{rows_of}
use Rattle.search.specs.Stops.{Ended, Full, Spent, Refused}
use Rattle.walk.specs.Walk.{places_of}
use Rattle.windows.specs.Theorems.{Stated}
use Rattle.timed.specs.Timed.{Held}
use Rattle.paging.specs.declared.Cursor.{Cursor}
use Rattle.paging.specs.declared.Ticket.{Ticket}
use Rattle.paging.specs.declared.Page.{Page}
use Rattle.paging.specs.declared.Stop.TheVariants as said
use Rattle.paging.specs.Answers.{PageValues, fresh_told, stop_told, page_told}
use Rattle.paging.specs.Answers.{Run}
use Rattle.paging.specs.Overlays.{Overlay, overlay_of}
use Rattle.paging.specs.Calls.{fresh_cause, fresh_call, fresh_counter, stop_number, page_cause, page_call, page_table, page_counter}
use Rattle.paging.specs.Calls.{run_cause, run_call, run_table, run_values, WorkAfter}

-- ---- page calls
-- whatever a call brings. 02, Q-12: a timed one brings windows too
pub record Call : Type 0 where
  pub shape : Shape
  pub cells : List ℤ
  pub windows : Option (List ℕ)
  pub order : List ℕ
  pub ticket : Ticket
  pub counter : List ℕ
  pub budget : ℕ
  pub table : List ℕ

-- the overlay of its plan and windows
abbrev pub overlay_at : (x : Call) → Overlay (Held (is_some x.windows))
overlay_at x = overlay_of x.windows x.shape x.cells

-- the cause that refuses it, the page that it is answered, and its table and its counter afterwards
abbrev pub cause : Call → ℕ
cause x = page_cause x.windows x.shape x.cells x.order x.ticket x.counter

abbrev pub answer : Call → PageValues
answer x = page_call x.windows x.shape x.cells x.order x.ticket x.counter x.budget x.table

abbrev pub table_after : Call → List ℕ
table_after x = page_table x.windows x.shape x.cells x.order x.ticket x.counter x.budget x.table

abbrev pub counted : Call → List ℕ
counted x = page_counter x.windows x.shape x.cells x.order x.ticket x.counter x.budget x.table

-- ---- rows
-- k, the cells of a row: one for each layer
abbrev pub row_size : {S : Type 0} → Overlay S → ℕ
row_size o = length o.sizes

-- 01: "A table of m cells takes m / k rows, rounded down, never more than 1,000,000."
abbrev pub takes : {S : Type 0} → Overlay S → (table : List ℕ) → ℕ
takes o table = min (length table / row_size o) 1000000

-- ---- cursors
-- 01: "the guard's layer and place, how many slots are filled (0 to 4), the chosen places in five cells (unfilled ones 0), first slot first, and the place
-- to try": what the cursor of a probe says of it
pub record Says {S : Type 0} (ns : List ℕ) (c : Cursor) (t : Probe S) : Type 0 where
  pub going : c.ended ≡ false
  pub layer : c.layer ≡ suc (spot_of ns t.guard).layer
  pub place : c.place ≡ (spot_of ns t.guard).place
  pub few : c.filled ≤ 4
  pub slots : c.filled + 2 ≤ length ns
  pub five : length c.chosen ≡ 5
  pub zeros : (i : ℕ) → c.filled ≤ i → get_or c.chosen i 0 ≡ 0
  pub chosen : take c.filled c.chosen ≡ t.chosen
  pub next : c.next ≡ t.tried

-- 01: "Or it says Ended, all else 0."
abbrev pub no_trial : Cursor
no_trial = record { ended = true; layer = 0; place = 0; filled = 0; chosen = 0 ∷ 0 ∷ 0 ∷ 0 ∷ 0 ∷ []; next = 0 }

-- 01: "A ticket names the trial due next": its cursor, where these probes are left
pub data Due {S : Type 0} (ns : List ℕ) : Cursor → List (Probe S) → Type 0 where
  over : Due ns no_trial []
  next : {c : Cursor} {t : Probe S} {w : List (Probe S)} → Says ns c t → Due ns c (t ∷ w)

-- 01: "a trial of the walk" or "Ended in its one form": what is left after some number of probes is due there
abbrev pub Good : {S : Type 0} → Overlay S → Cursor → Type 0
Good o c = (n : ℕ) × Due o.sizes c (drop n o.walk)

-- ---- causes
-- 02: not so where "the record is not one cell, or for a page call holds 2^57 or more or differs from the ticket's count"
abbrev pub Current : (count : ℕ) → List ℕ → Type 0
Current count counter = (counter ≡ count ∷ []) × (count < 144115188075855872)

-- 02, Q-12: windows as stated (`Stated`: the crate windows), in a call that brings them
abbrev pub Hours : (windows : Option (List ℕ)) → Shape → Type 0
Hours none s = Unit {0}
Hours (some hours) s = Stated s hours

-- the lines that the fresh-ticket call, the page call and the whole run begin with: the plan's own (`PlanChecks`: the crate plan), 24, 02: "after 4", and 5
abbrev pub OrderChecks : (windows : Option (List ℕ)) → Shape → List ℤ → (order : List ℕ) → (Next : ℕ → Type 0) → ℕ → Type 0
OrderChecks windows s cells order Next = PlanChecks s cells (Check 24 (Hours windows s) (Check 5 (order ≡ sweep_order (grown s cells)) Next))

-- ---- one accepted page call on an overlay: w is what is left of the walk at its ticket, p what it answers, and the table is left so
pub record PageHolds {S : Type 0} (o : Overlay S) (x : Call) (w : List (Probe S)) (p : PageValues) (left : List ℕ) : Type 0 where
  -- it does the first probes that are left, and puts out the rows that they yield
  pub rows : rows_in (row_size o) p.rows left ≡ map (places_of o.sizes) (rows_of row_of (take p.probes w))
  -- 01: "Before each trial it asks in this order: walk over, stop with Ended; table full, stop with Full; trials done equal the budget, stop with Spent."
  pub stops : ((p.stop ≡ Ended) × (p.probes ≡ length w))
      ⊎ (((p.stop ≡ Full) × (p.probes < length w) × (p.rows ≡ takes o x.table))
      ⊎ ((p.stop ≡ Spent) × (p.probes < length w) × (p.rows < takes o x.table) × (p.probes ≡ x.budget)))
  pub going : (d : ℕ) → d < p.probes → (length (rows_of row_of (take d w)) < takes o x.table) × (d < x.budget)
  -- the sum of its rows' areas. 02, Q-13: "kept as whole square metres and a rest below 1,000,000 square millimetres" (`Totals`: the crate totals)
  pub area : p.area ≡ total_of (sum (map o.area (rows_in (row_size o) p.rows left)))
  -- the ticket for what is due next, with 02's "new count"; the counter holds it too
  pub ticket : Due o.sizes p.ticket.cursor (drop p.probes w) × (p.ticket.count ≡ x.ticket.count + p.probes)
  pub counter : counted x ≡ (x.ticket.count + p.probes) ∷ []
  -- 01: "Rows fill it from its first cell; the rest keeps its contents."
  pub long : length left ≡ length x.table
  pub kept : drop (row_size o * p.rows) left ≡ drop (row_size o * p.rows) x.table

-- ---- the whole run
-- demand 3: "the whole run succeeds exactly when the table fits, and then hands out all its rows and reports that length." Of a run of a plan on an overlay,
-- into a table: the cause that refuses it, what it told, and the table as it left it
pub record RunHolds (s : Shape) (cells : List ℤ) {S : Type 0} (o : Overlay S) (table : List ℕ) (refusal : ℕ) (told : Run) (left : List ℕ) : Type 0 where
  pub succeeds : (refusal ≡ 0) ↔ (length o.table ≤ takes o table)
  pub rows : refusal ≡ 0 → rows_in s.k (length o.table) left ≡ o.table
  -- the sum of the areas, and 02, Q-6: "the union of all rows' common ground". The crate ground says what it is: `UnionHolds` of any list of rectangles
  -- (`most`, `least`: its bounds), `TableUnions` that `grounds` are those of rows, in range, and so of the rows that a timed run keeps
  pub done : refusal ≡ 0 → told ≡ Ok (record {
    rows = length o.table;
    probes = length o.walk;
    area = total_of (sum (map o.area o.table));
    ground = total_of (union_of (grounds (layers s cells) o.table));
  })
  -- the rest of the table is kept
  pub long : length left ≡ length table
  pub kept : let n = s.k * length o.table in refusal ≡ 0 → drop n left ≡ drop n table

-- ---- the calls of a plan, timed or not: `windows` are those that they bring, and o is their overlay
pub record AnswersHold {S : Type 0} (o : Overlay S) (windows : Option (List ℕ)) (s : Shape) (cells : List ℤ)
    (order counter table : List ℕ) (work : ℕ) : Type 0 where
  -- the causes. 02, Q-12: "In a timed call 6, 7 and 19 speak of the timed walk and its rows"; Q-6: "work buffer shorter than two cells a row, 19, after 7"
  pub fresh_causes : OrderChecks none s cells order (Check 18 (length counter ≡ 1) Passed) (fresh_cause s cells order counter)
  pub run_causes : let n = length o.table in
      OrderChecks windows s cells order (Check 7 (n ≤ takes o table) (Check 19 (2 * n ≤ work) Passed)) (run_cause windows s cells order table work)
  -- 01: "A refusal returns its number and 0 for all else; .. the fresh-ticket call returns Ended." Every buffer is left as it was
  pub fresh_refused : (n : ℕ) → fresh_cause s cells order counter ≡ suc n
      → (fresh_call s cells order counter ≡ record { number = suc n; ticket = record { cursor = no_trial; count = 0 } })
      × (fresh_counter s cells order counter ≡ counter)
  pub run_refused : (n : ℕ) → run_cause windows s cells order table work ≡ suc n
      → (run_call windows s cells order table work ≡ Err (suc n)) × (run_table windows s cells order table work ≡ table)
  -- 01: "returns the fresh ticket: the first trial, or Ended where the walk is empty": that of the whole walk, and of the timed one too. 02: "A fresh start
  -- writes 0"
  pub fresh : Typed s → fresh_cause s cells order counter ≡ 0 → let f = fresh_call s cells order counter in
      (f.number ≡ 0) × Due o.sizes f.ticket.cursor o.walk × (f.ticket.count ≡ 0) × (fresh_counter s cells order counter ≡ 0 ∷ [])
  -- what is left after any number of probes has a cursor
  pub due : Sound s cells → (n : ℕ) → (c : Cursor) × Due o.sizes c (drop n o.walk)

pub record Answers : Type 0 where
  pub calls : (windows : Option (List ℕ)) (s : Shape) (cells : List ℤ) (order counter table : List ℕ) (work : ℕ)
      → AnswersHold (overlay_of windows s cells) windows s cells order counter table work
  -- each page call: its causes
  pub page_causes : (x : Call) → Typed x.shape → let now = Current x.ticket.count x.counter in
      OrderChecks x.windows x.shape x.cells x.order (Check 6 (Good (overlay_at x) x.ticket.cursor) (Check 18 now Passed)) (cause x)
  -- 01: a refusal "also returns its ticket as given"; every buffer is left as it was
  pub page_refused : (x : Call) (n : ℕ) → cause x ≡ suc n
      → (answer x ≡ record { stop = Refused (suc n); rows = 0; probes = 0; area = total_of 0; ticket = x.ticket }) × (table_after x ≡ x.table)
      × (counted x ≡ x.counter)
  -- 01's number of each stop
  -- what a fresh ticket's answer, a stop and a page say
  pub fresh_answer : (t : Ticket) (c : Cause) → (fresh_told (Ok t) ≡ record { number = 0; ticket = t })
      × (fresh_told (Err c) ≡ record { number = number_of c; ticket = record { cursor = no_trial; count = 0 } })
  pub stop_answer : (stop_told said.Ended ≡ Ended) × (stop_told said.Full ≡ Full) × (stop_told said.Spent ≡ Spent)
      × ((n : ℕ) → stop_told (said.Refused n) ≡ Refused n)
  pub page_answer : (p : Page)
      → page_told p ≡ record { stop = stop_told p.stop; rows = p.rows; probes = p.probes; area = p.area; ticket = p.ticket }
  pub page_number : (stop_number Ended ≡ 0) × (stop_number Full ≡ 0) × (stop_number Spent ≡ 0) × ((n : ℕ) → stop_number (Refused n) ≡ n)
  -- an accepted one, by what is left at its cursor: `page_causes` has that something is
  pub page : (x : Call) (n : ℕ) → Typed x.shape → cause x ≡ 0 → let o = overlay_at x in
      Due o.sizes x.ticket.cursor (drop n o.walk) → PageHolds o x (drop n o.walk) (answer x) (table_after x)
  -- 01's number and values of what a whole run answers
  pub values_of_run : (n rows probes : ℕ) (area ground : Total)
      → (run_values (Err n) ≡ record { number = n; rows = 0; probes = 0; area = total_of 0; ground = total_of 0 })
      × (run_values (Ok (record { rows = rows; probes = probes; area = area; ground = ground }))
      ≡ record { number = 0; rows = rows; probes = probes; area = area; ground = ground })
  -- the work buffer of a run. 02, Q-6: its "contents afterwards are free", but for its length; after a refusal it "too is then left as it was"
  pub work : (n : ℕ) (before left : List ℤ) → WorkAfter n before left ↔ ((length left ≡ length before) × (0 < n → left ≡ before))
