-- Theorem: what 02, Q-10, says of a round and of every list of rounds. Proved in proofs/Theorems.antt. Sentences in quotes are 02's; its tablets are clients
-- here.
use Rattle.std.specs.Prelude.{◌≡◌, ◌&&◌, ◌⊎◌, ℕ, zero, suc, ◌+◌, ◌-◌, ◌*◌, ◌/◌, ◌≤◌, ◌<◌, ℤ, eqb, leb, length, get_or, take, drop}
use mathlib.Core.List.{List, [], ◌∷◌, map, flat_map}
use Rattle.std.proofs.Math.Option.{none}
use Rattle.lists.specs.Lists.{sum, numbers, keep}
use Rattle.totals.specs.Totals.{total_of}
use Rattle.plan.specs.declared.Shape.{Shape}
use Rattle.plan.specs.Causes.{refusal, Check, Passed}
use Rattle.plan.specs.Plan.{grown, Typed}
use Rattle.plan.specs.Theorems.{PlanChecks}
use Rattle.sweep.specs.Sweep.{sweep_order}
use Rattle.search.specs.Stops.{Ended, Full, Spent, Refused}
use Rattle.paging.specs.declared.Ticket.{Ticket}
use Rattle.paging.specs.Answers.{PageValues, page_told}
use Rattle.paging.specs.Cursors.{ended_cursor}
use Rattle.paging.specs.Overlays.{overlay}
use Rattle.paging.specs.Calls.{fresh_cause, fresh_call, fresh_counter}
use Rattle.paging.specs.Theorems.{Call, cause, answer, table_after, counted, Good, Current}
use Rattle.demands.specs.Theorems.{OneRun, Last, handed, PagingHolds, TicketsHold}
use Rattle.rows.specs.Tables.{rows_in}
use Rattle.rounds.specs.Shares.{client_at}
use Rattle.rounds.specs.declared.Round.{Round}
use Rattle.rounds.specs.Rounds.{Request, round_told, idle_page, ticket_at, counter_at, part_at, round_cause, budget_at, round_call, round_counters, round_table}

-- ---- causes
-- "then 6 and 18 for each tablet, the lowest tablet deciding": of n clients from t on, each with its ticket and its cell of the run records (`Good`,
-- `Current`: as for a page call)
abbrev pub ClientChecks : Request → (t n : ℕ) → ℕ → Type 0
ClientChecks q t zero = Passed
ClientChecks q t (suc n) =
    let ticket = get_or q.tickets (t - 1) (record { cursor = ended_cursor; count = 0 }) in
    Check 6 (Good (overlay q.shape q.cells) ticket.cursor)
    (Check 18 (Current ticket.count (take 1 (drop (t - 1) q.counters))) (ClientChecks q (suc t) n))

-- not so where "m outside 1 to 16, the first tablet not among them, B above 2^32 − 1, or not m run records"
abbrev pub InBounds : Request → Type 0
InBounds q =
    (1 ≤ q.clients) × (q.clients ≤ 16) × (1 ≤ q.first) × (q.first ≤ q.clients) × (q.budget ≤ 4294967295)
    × (length q.counters ≡ q.clients)

-- the lines of a round: the plan's own and 5, then "22, after 5"
abbrev pub RoundChecks : Request → ℕ → Type 0
RoundChecks q =
    PlanChecks q.shape q.cells
    (Check 5 (q.order ≡ sweep_order (grown q.shape q.cells)) (Check 22 (InBounds q) (ClientChecks q 1 q.clients)))

-- ---- refusals
-- "A refused round alters nothing and returns, beside its number, every ticket as given and each stop as a refusal with that number"; all else is 0
pub record RoundRefused (q : Request) (n : ℕ) : Type 0 where
  pub answer : round_call q
      ≡ record { number = n; next = 0; pages = map (λ t. record { stop = Refused n; rows = 0; probes = 0; area = total_of 0; ticket = t }) q.tickets }
  pub counters : round_counters q ≡ q.counters
  pub table : round_table q ≡ q.table

-- ---- one accepted round
module _ (q : Request) where
  -- the page call that client t makes with this table; 02, Q-12: it has no timed form
  abbrev pub call_with : (t : ℕ) → (table : List ℕ) → Call
  call_with t table = record {
    shape = q.shape;
    cells = q.cells;
    windows = none;
    order = q.order;
    ticket = ticket_at q t;
    counter = counter_at q t;
    budget = budget_at q t;
    table = table;
  }

  abbrev pub call_of : (t : ℕ) → Call
  call_of t = call_with t (part_at q t)

  -- the page that client t got
  abbrev pub client_page : (t : ℕ) → PageValues
  client_page t = get_or (round_call q).pages (t - 1) (idle_page (record { cursor = ended_cursor; count = 0 }))

  -- a table is "cut from its first cell into m parts, in tablet order from tablet 1, of cells / (k × m) rows, rounded down": the cells of each, and part t
  abbrev pub cells_each : ℕ
  cells_each = q.shape.k * (length q.table / (q.shape.k * q.clients))

  abbrev pub part_of : (t : ℕ) → (table : List ℕ) → List ℕ
  part_of t table = take cells_each (drop ((t - 1) * cells_each) table)

  -- the rows that client t got
  abbrev pub rows_for : (t : ℕ) → List (List ℕ)
  rows_for t = rows_in q.shape.k (client_page t).rows (part_of t (round_table q))

  -- the client in turn i, from 0
  abbrev pub turn : (i : ℕ) → ℕ
  turn i = client_at q.clients q.first i

  -- u comes after t: "1 after m"
  abbrev pub NextClient : (t u : ℕ) → Type 0
  NextClient t u = (t ≡ q.clients → u ≡ 1) × ((t ≡ q.clients → ⊥) → u ≡ t + 1)

-- the order in which clients are served, and what each is offered
pub record Turns (q : Request) : Type 0 where
  -- "Tablets are served in turn order, 1 after m, from a given first one."
  pub start : turn q 0 ≡ q.first
  pub next : (i : ℕ) → NextClient q (turn q i) (turn q (suc i))
  -- so m turns serve each client, and, as they are m, just once
  pub all : (t : ℕ) → 1 ≤ t → t ≤ q.clients → (i : ℕ) × (i < q.clients) × (turn q i ≡ t)
  -- "Each is offered the trials left divided by the tablets still to serve, rounded down, and makes one page call with that. Its unused trials stay in what is
  -- left."
  pub offers : (i : ℕ) → i < q.clients
      → budget_at q (turn q i) ≡ (q.budget - sum (map (λ j. (client_page q (turn q j)).probes) (numbers i))) / (q.clients - i)

-- what client t has of an accepted round
pub record ClientHolds (q : Request) (t : ℕ) : Type 0 where
  -- it brings the t-th ticket, and the t-th cell of "one lent buffer of m cells"
  pub brings : ticket_at q t ≡ get_or q.tickets (t - 1) (record { cursor = ended_cursor; count = 0 })
  pub lends : counter_at q t ≡ get_or q.counters (t - 1) 0 ∷ []
  -- its page call is accepted; its answer, its counter and its part are those of this call alone
  pub accepted : cause (call_of q t) ≡ 0
  pub page : client_page q t ≡ answer (call_of q t)
  pub counter : take 1 (drop (t - 1) (round_counters q)) ≡ counted (call_of q t)
  pub part : part_of q t (round_table q) ≡ table_after (call_of q t)
  pub cut : part_at q t ≡ part_of q t q.table
  -- "Each tablet performs at least B / m trials, rounded down, unless it ends or its part is full": each is offered as many
  pub offered : q.budget / q.clients ≤ budget_at q t
  pub share : ((client_page q t).stop ≡ Ended) ⊎ (((client_page q t).stop ≡ Full) ⊎ (q.budget / q.clients ≤ (client_page q t).probes))
  -- "Each run's rows and trials are those it would have had alone with the same budgets and part sizes": with any table as long as the part
  pub alone : (table : List ℕ) → length table ≡ length (part_at q t)
      → (answer (call_with q t table) ≡ client_page q t) × (rows_in q.shape.k (client_page q t).rows (table_after (call_with q t table)) ≡ rows_for q t)

-- its number is 0 (`RoundsHold`: `number`)
pub record RoundHolds (q : Request) : Type 0 where
  -- "The next round starts with the tablet after this first one (1 after m)"
  pub next : NextClient q q.first (round_call q).next
  pub turns : Turns q
  pub clients : (t : ℕ) → 1 ≤ t → t ≤ q.clients → ClientHolds q t
  -- "past m the ticket comes back as given, the stop is Spent and all else 0"
  pub sixteen : length (round_call q).pages ≡ 16
  pub past : (t : ℕ) → q.clients < t → t ≤ 16 → let given = get_or q.tickets (t - 1) (record { cursor = ended_cursor; count = 0 }) in
      client_page q t ≡ record { stop = Spent; rows = 0; probes = 0; area = total_of 0; ticket = given }
  -- "No round spends more than B."
  pub within : sum (map (λ p. p.probes) (round_call q).pages) ≤ q.budget
  -- the table's parts are the clients'; "the rest is kept"
  pub long : length (round_table q) ≡ length q.table
  pub rest : let used = q.clients * cells_each q in drop used (round_table q) ≡ drop used q.table
  -- "one lent buffer of m cells"
  pub counters : length (round_counters q) ≡ q.clients

-- ---- lists of rounds, of client t
-- the accepted rounds that serve it
abbrev pub serving : (t : ℕ) → List Request → List Request
serving t qs = keep (λ q. eqb (round_cause q) 0 && leb t q.clients) qs

-- those of them with "B ≥ m and every part takes a row"
abbrev pub roomy : (t : ℕ) → List Request → List Request
roomy t qs = keep (λ q. leb q.clients q.budget && leb 1 (length q.table / (q.shape.k * q.clients))) (serving t qs)

-- the page calls that it makes in them
abbrev pub calls_of : (t : ℕ) → List Request → List Call
calls_of t qs = map (λ q. call_of q t) (serving t qs)

-- of a client whose fresh start returned the ticket `first` and left `counter`
pub record ListHolds (s : Shape) (cells : List ℤ) (first : Ticket) (counter : List ℕ) (t : ℕ) (qs : List Request) : Type 0 where
  -- the page calls of a client are a list of page calls as demand 3 has it, so all that it says holds of them
  pub paging : PagingHolds (overlay s cells) (calls_of t qs)
  pub tickets : TicketsHold first counter (calls_of t qs)
  -- "Each run's rows and trials are those it would have had alone with the same budgets and part sizes": what its page calls, made alone one after the other,
  -- answer and put out is what the rounds gave it
  pub pages : map (λ q. client_page q t) (serving t qs) ≡ map answer (calls_of t qs)
  pub rows : flat_map (λ q. rows_for q t) (serving t qs) ≡ handed s.k (calls_of t qs)
  -- "Where B ≥ m and every part takes a row, each tablet's run ends within its walk's length plus one accepted rounds that serve it, whichever way the others
  -- go": as soon as such rounds outnumber that length, whatever other rounds lie among them
  pub ends : length (overlay s cells).walk < length (roomy t qs) → (x : Call) × Last (calls_of t qs) x × ((answer x).stop ≡ Ended)

pub record RoundsHold : Type 0 where
  pub causes : (q : Request) → Typed q.shape → RoundChecks q (round_cause q)
  pub number : (q : Request) → (round_call q).number ≡ round_cause q
  -- what its answer says: the number of its cause or 0, who is next, and the pages as each page call says them
  pub answer : (r : Round) → round_told r ≡ record { number = refusal r.checks; next = r.next; pages = map page_told r.pages }
  pub refused : (q : Request) (n : ℕ) → round_cause q ≡ suc n → RoundRefused q (suc n)
  pub accepted : (q : Request) → Typed q.shape → round_cause q ≡ 0 → RoundHolds q
  -- every list of rounds, and the run of any client that an accepted fresh start begins: each accepted round that serves it brings the same plan, a ticket of
  -- its run, and its counter as the fresh start or the last such round left it: what a round returns to it and leaves is its page call's (`ClientHolds`).
  -- Whatever these rounds bring for others is free, and all that a refused round, or one that does not serve it, brings
  pub lists : (s : Shape) (cells : List ℤ) (order counter : List ℕ) (t : ℕ) (qs : List Request)
      → Typed s → fresh_cause s cells order counter ≡ 0 → 1 ≤ t
      → let first = (fresh_call s cells order counter).ticket in let left = fresh_counter s cells order counter in
      OneRun none s cells first left (calls_of t qs) → ListHolds s cells first left t qs
