-- Theorem: demand 3, over every list of page calls on a plan, and of the whole run and the crossing report. Proved in proofs/Theorems.antt. What each call
-- answers is in the crate paging (specs/Theorems.antt). Sentences in quotes are the demand's; those of the scope papers begin with 01 and 02.
use Rattle.std.specs.Prelude.{◌≡◌, ◌&&◌, ◌↔◌, ℕ, ◌*◌, ◌≤◌, ◌<◌, ℤ, eqb, ltb, length, take, drop}
use mathlib.Core.List.{List, [], ◌∷◌, ◌++◌, map, Memᴰ}
use Rattle.std.proofs.Math.Option.{Option, none, some}
use Rattle.lists.specs.Lists.{All, sum, keep}
use Rattle.totals.specs.Totals.{value_of}
use Rattle.plan.specs.declared.Shape.{Shape}
use Rattle.plan.specs.Plan.{sizes_of, grown, layers, Typed, Sound}
use Rattle.sweep.specs.Sweep.{sweep_order}
use Rattle.join.specs.Join.{area_in}
use Rattle.join.specs.Table.{plan_table}
use Rattle.join.specs.Theorems.{TableHolds}
use Rattle.rows.specs.Tables.{rows_in}
use Rattle.crossings.specs.Theorems.{Segments}
use Rattle.search.specs.Traversal.{row_of}
use Rattle.search.specs.Paging.{rows_of}
use Rattle.search.specs.Stops.{Ended}
use Rattle.walk.specs.Walk.{walk_of, places_of}
use Rattle.walk.specs.Theorems.{WalkIsTable}
use Rattle.windows.specs.Theorems.{Stated}
use Rattle.timed.specs.Theorems.{WholeWeek, TimedHolds}
use Rattle.paging.specs.declared.Ticket.{Ticket}
use Rattle.paging.specs.Overlays.{Overlay, overlay, overlay_of}
use Rattle.paging.specs.Calls.{fresh_cause, fresh_call, fresh_counter, page_call, page_table, page_counter, run_cause, run_call, run_table}
use Rattle.paging.specs.Theorems.{Call, cause, answer, table_after, counted, row_size, takes, Due, Hours, RunHolds}
use Rattle.crossing_report.specs.CrossingCall.{crossing_run_cause, crossing_call, crossing_table}

-- ---- lists of page calls
-- 01: "A refused call may bring anything, and the ticket it gives back does not count." Those that count
abbrev pub accepted : List Call → List Call
accepted xs = keep (λ x. eqb (cause x) 0) xs

-- the last of a list, or a where it has none
abbrev pub last_or : {A : Type 0} → A → List A → A
last_or a [] = a
last_or a (b ∷ l) = last_or b l

-- 02, Q-5: behind these calls of a run whose fresh start returned t and left this counter: its tickets, that of the last accepted call, and its counter
abbrev pub tickets_of : Ticket → List Call → List Ticket
tickets_of t xs = t ∷ map (λ x. (answer x).ticket) (accepted xs)

abbrev pub newest_of : Ticket → List Call → Ticket
newest_of t xs = last_or t (tickets_of t xs)

abbrev pub counter_after : List ℕ → List Call → List ℕ
counter_after counter xs = last_or counter (map counted (accepted xs))

module _ (windows : Option (List ℕ)) (s : Shape) (cells : List ℤ) where
  -- each accepted call of a list brings this plan and, 02, Q-12, "the same" windows or none, and what `Brings` asks of it behind the calls before it
  abbrev pub Each : (Brings : List Call → Call → Type 0) → List Call → Type 0
  Each Brings xs = (ys : List Call) (x : Call) (zs : List Call) → xs ≡ ys ++ x ∷ zs → cause x ≡ 0
      → (x.windows ≡ windows) × (x.shape ≡ s) × (x.cells ≡ cells) × Brings ys x

  -- 01: "the ticket returned by the accepted call before it or, if there is none, the fresh one"
  abbrev pub Chain : Ticket → List Call → Type 0
  Chain t xs = Each (λ ys x. x.ticket ≡ newest_of t ys) xs

  -- 02: "any ticket of its run", and "the run's own record too, as the fresh start that began the run, or the last accepted call, left it"
  abbrev pub OneRun : Ticket → (counter : List ℕ) → List Call → Type 0
  OneRun t counter xs = Each (λ ys x. Memᴰ x.ticket (tickets_of t ys) × (x.counter ≡ counter_after counter ys)) xs

-- ---- what a list of calls did
-- 01: "The rows handed out are, in the order of the list, those in the first cells of each accepted call's table as that call left it, k cells for each row
-- it reports." A refused call reports none
abbrev pub handed : (k : ℕ) → List Call → List (List ℕ)
handed k [] = []
handed k (x ∷ xs) = rows_in k (answer x).rows (table_after x) ++ handed k xs

-- the probes that the calls report in all
abbrev pub reported : List Call → ℕ
reported xs = sum (map (λ x. (answer x).probes) xs)

-- 01: "A call allows a trial and a row when its budget is above 0 and its table takes at least one row." How many accepted calls do
abbrev pub allowing : {S : Type 0} → Overlay S → List Call → ℕ
allowing o xs = length (keep (λ x. eqb (cause x) 0 && (ltb 0 x.budget && ltb 0 (takes o x.table))) xs)

-- x is the last accepted call
abbrev pub Last : List Call → Call → Type 0
Last xs x = (ys : List Call) × (accepted xs ≡ ys ++ x ∷ [])

-- ---- demand 3, of a list of calls on an overlay
pub record PagingHolds {S : Type 0} (o : Overlay S) (xs : List Call) : Type 0 where
  -- "the rows handed out are the first rows of that table, in its order:
  pub first : handed (row_size o) xs ≡ take (length (handed (row_size o) xs)) o.table
  -- exactly those that the walk yields in its first trials, as many as the calls reported in all,
  pub yielded : handed (row_size o) xs ≡ map (places_of o.sizes) (rows_of row_of (take (reported xs) o.walk))
  -- which is never more than the walk's length."
  pub within : reported xs ≤ length o.walk
  -- "No call reports more trials than its budget."
  pub budgets : All (λ x. (answer x).probes ≤ x.budget) xs
  -- "An accepted call tells Ended exactly when the trials reported up to and with it add up to the walk's length."
  pub ended : (ys : List Call) (x : Call) (zs : List Call) → xs ≡ ys ++ x ∷ zs → cause x ≡ 0
      → ((answer x).stop ≡ Ended) ↔ (reported (ys ++ x ∷ []) ≡ length o.walk)
  -- "If the accepted calls that each allow a trial and a row outnumber that length, the last accepted call tells Ended."
  pub bound : length o.walk < allowing o xs → (x : Call) × Last xs x × ((answer x).stop ≡ Ended)
  -- 01: "The reported area sums add up to these rows' areas."
  pub areas : sum (map (λ x. value_of (answer x).area) xs) ≡ sum (map o.area (handed (row_size o) xs))
  -- 01: "The ticket that the last accepted call returns names the trial that comes next in the walk after as many as were reported in all, or says Ended
  -- where none comes." 02: it "carries the trials done so far"
  pub last : (x : Call) → Last xs x → Due o.sizes (answer x).ticket.cursor (drop (reported xs) o.walk) × ((answer x).ticket.count ≡ reported xs)

-- 02, Q-5, behind these calls of a run. Its first calls are such a list too
pub record TicketsHold (t : Ticket) (counter : List ℕ) (xs : List Call) : Type 0 where
  -- 02: "Every ticket, Ended too, carries the trials done so far", and a run record "holds the same number"
  pub counts : ((newest_of t xs).count ≡ reported xs) × (counter_after counter xs ≡ reported xs ∷ [])
  -- 02: "any ticket of its run: one with another count is refused", whatever the call brings with it and the run's own record
  pub stale : (x : Call) → x.counter ≡ counter_after counter xs → (x.ticket.count ≡ (newest_of t xs).count → ⊥) → cause x ≡ 0 → ⊥
  -- 02: "and one with the same count equals the last one."
  pub same : (u : Ticket) → Memᴰ u (tickets_of t xs) → u.count ≡ (newest_of t xs).count → u ≡ newest_of t xs

-- ---- demand 3, of a plan, and of the calls that bring it, timed or not: `windows` are those that they bring, and o is their overlay
pub record CallsHold {S : Type 0} (o : Overlay S) (windows : Option (List ℕ)) (s : Shape) (cells : List ℤ)
    (order counter table : List ℕ) (work : ℕ) : Type 0 where
  -- "A plan has one table and one walk, and the rows of the walk are that table, in its order."
  pub table_walk : Sound s cells → TableHolds (sizes_of s) (grown s cells) × WalkIsTable (sizes_of s) (grown s cells)
  -- its overlay is made of these, of the sizes of its layers, and of the areas of rows, all of the grown plan
  pub untimed : overlay_of none s cells
      ≡ record { sizes = sizes_of s; walk = walk_of (sizes_of s) (grown s cells); table = plan_table s cells; area = area_in (layers s cells) }
  -- 02, Q-12: "Completeness, order, paging and the bound on calls hold for timed runs over that table and that walk": those of its overlay with windows
  pub timed : (hours : List ℕ) → let p = overlay_of (some hours) s cells in (p.sizes ≡ sizes_of s) × (p.area ≡ area_in (layers s cells))
      × (Sound s cells → TimedHolds (sizes_of s) (grown s cells) hours p.walk p.table)
  -- every list of page calls in the run that an accepted fresh start begins
  pub paging : (xs : List Call) → Typed s → fresh_cause s cells order counter ≡ 0
      → let t = (fresh_call s cells order counter).ticket in let begun = fresh_counter s cells order counter in
      OneRun windows s cells t begun xs → PagingHolds o xs × TicketsHold t begun xs
  -- as 01 has it, on any plan. It follows from `paging`: an accepted call brings the counter of its ticket
  pub chained : (xs : List Call) → Typed s → Chain windows s cells (fresh_call s cells (sweep_order (grown s cells)) (0 ∷ [])).ticket xs
      → PagingHolds o xs
  -- "Given a sound plan and order, the whole run succeeds exactly when the table fits", and windows. 02, Q-6: "In demand 3 the whole run is from then on also
  -- given a work buffer long enough"
  pub run : Sound s cells → Hours windows s → order ≡ sweep_order (grown s cells) → 2 * length o.table ≤ work
      → RunHolds s cells o table (run_cause windows s cells order table work) (run_call windows s cells order table work)
      (run_table windows s cells order table work)
  -- 02, Q-2: "In demand 3 the crossing report is given a plan to which neither applies", neither 15 nor 16. Its causes, refusals and class counts: tally,
  -- `CrossingReports`
  pub crossing : Sound s cells → 3 ≤ s.k → Segments s cells → order ≡ sweep_order (grown s cells) → 2 * length (plan_table s cells) ≤ work
      → RunHolds s cells (overlay s cells) table (crossing_run_cause s cells order table work) (crossing_call s cells order table work).run
      (crossing_table s cells order table work)

pub record Demand3 : Type 0 where
  pub calls : (windows : Option (List ℕ)) (s : Shape) (cells : List ℤ) (order counter table : List ℕ) (work : ℕ)
      → CallsHold (overlay_of windows s cells) windows s cells order counter table work
  -- 02, Q-12: with windows of the whole week every timed call answers what the untimed one answers, whatever it brings beside its plan
  pub week : (s : Shape) (cells : List ℤ) (hours : List ℕ) → Sound s cells → Stated s hours → WholeWeek (grown s cells) hours
      → (page_call (some hours) s cells ≡ page_call none s cells) × (page_table (some hours) s cells ≡ page_table none s cells)
      × (page_counter (some hours) s cells ≡ page_counter none s cells)
      × (run_call (some hours) s cells ≡ run_call none s cells) × (run_table (some hours) s cells ≡ run_table none s cells)
