-- What a round answers (02, Q-10), over what the page call answers. Clients are 02's tablets, counters its run records.
use Rattle.std.specs.Prelude.{List, ◌++◌, map, Bool, cond, ◌&&◌, ℕ, zero, suc, ◌-◌, ◌*◌, ◌/◌, ℤ, eqb, leb, length, get_or, take, drop}
use Rattle.std.proofs.Math.Option.{none}
use Rattle.lists.specs.Lists.{each, upto}
use Rattle.totals.specs.Totals.{total_of}
use Rattle.plan.specs.declared.Shape.{Shape}
use Rattle.plan.specs.Causes.{refusal, unless, ◌or_else◌, on_cause}
use Rattle.sweep.specs.Sweep.{order_cause}
use Rattle.search.specs.Stops.{Spent}
use Rattle.paging.specs.Answers.{PageValues, page_told}
use Rattle.paging.specs.declared.Ticket.{Ticket}
use Rattle.paging.specs.Cursors.{ended_cursor}
use Rattle.paging.specs.Calls.{page_cause, refused_page, page_call, page_table, page_counter}
use Rattle.rounds.specs.declared.Round.{Round}
use Rattle.rounds.specs.Shares.{after, offered}

-- what a round answers: the number of a refusal or 0, the client that the next round starts with, and the page of each of sixteen clients
pub record RoundValues : Type 0 where
  pub number : ℕ
  pub next : ℕ
  pub pages : List PageValues

-- those of the code's answer
abbrev pub round_told : Round → RoundValues
round_told r = record { number = refusal r.checks; next = r.next; pages = map page_told r.pages }

-- whatever a round brings: a plan, its order, "B trials, m tickets and one table", the client that is served first, and the run records
pub record Request : Type 0 where
  pub shape : Shape
  pub cells : List ℤ
  pub order : List ℕ
  pub clients : ℕ
  pub first : ℕ
  pub budget : ℕ
  pub tickets : List Ticket
  pub counters : List ℕ
  pub table : List ℕ

-- 02: "past m the ticket comes back as given, the stop is Spent and all else 0"
abbrev pub idle_page : Ticket → PageValues
idle_page t = record { stop = Spent; rows = 0; probes = 0; area = total_of 0; ticket = t }

-- ---- what belongs to client t
abbrev pub ticket_of : List Ticket → (t : ℕ) → Ticket
ticket_of tickets t = get_or tickets (t - 1) (record { cursor = ended_cursor; count = 0 })

-- 02: "The run records are one lent buffer of m cells": its own, as a list of one cell
abbrev pub counter_of : List ℕ → (t : ℕ) → List ℕ
counter_of counters t = take 1 (drop (t - 1) counters)

-- ---- the checks
-- else 02: "m outside 1 to 16, the first tablet not among them, B above 2^32 − 1, or not m run records"
unfoldable pub fits_round : (m first budget records : ℕ) → Bool
fits_round m first budget records = leb 1 m && (leb m 16 && (leb 1 first && (leb first m && (leb budget 4294967295 && eqb records m))))

module _ (q : Request) where
  abbrev pub ticket_at : (t : ℕ) → Ticket
  ticket_at t = ticket_of q.tickets t

  abbrev pub counter_at : (t : ℕ) → List ℕ
  counter_at t = counter_of q.counters t

  -- the cells of a part, "of cells / (k × m) rows, rounded down"
  abbrev pub part_size : ℕ
  part_size = q.shape.k * (length q.table / (q.shape.k * q.clients))

  -- its part of the table, "cut from its first cell into m parts, in tablet order from tablet 1"
  abbrev pub part_at : (t : ℕ) → List ℕ
  part_at t = take part_size (drop ((t - 1) * part_size) q.table)

  -- 02: "then 6 and 18 for each tablet, the lowest tablet deciding", of n clients from t on: the causes of their page calls
  abbrev pub clients_cause : (t n : ℕ) → ℕ
  clients_cause t zero = 0
  clients_cause t (suc n) = page_cause none q.shape q.cells q.order (ticket_at t) (counter_at t) or_else clients_cause (suc t) n

  -- the checks: 1 2 17 3 4 5, 22, then those of the clients
  unfoldable pub round_cause : ℕ
  round_cause =
      order_cause q.shape q.cells q.order
      or_else unless (fits_round q.clients q.first q.budget (length q.counters)) 22
      or_else clients_cause 1 q.clients

  -- ---- the page calls
  -- the probes that client t does with a budget of b
  unfoldable pub probes_of : (t b : ℕ) → ℕ
  probes_of t b = (page_call none q.shape q.cells q.order (ticket_at t) (counter_at t) b (part_at t)).probes

  -- the budget of client t: what it is offered
  abbrev pub budget_at : (t : ℕ) → ℕ
  budget_at t = offered probes_of q.clients q.first q.budget t

  -- 02: each "makes one page call with that": its answer, its counter and its part afterwards
  abbrev pub page_at : (t : ℕ) → PageValues
  page_at t = page_call none q.shape q.cells q.order (ticket_at t) (counter_at t) (budget_at t) (part_at t)

  abbrev pub counted_at : (t : ℕ) → List ℕ
  counted_at t = page_counter none q.shape q.cells q.order (ticket_at t) (counter_at t) (budget_at t) (part_at t)

  abbrev pub filled_at : (t : ℕ) → List ℕ
  filled_at t = page_table none q.shape q.cells q.order (ticket_at t) (counter_at t) (budget_at t) (part_at t)

  -- what client t gets, of sixteen
  abbrev pub answer_at : (t : ℕ) → PageValues
  answer_at t = cond (leb t q.clients) (page_at t) (idle_page (ticket_at t))

  -- ---- the round
  -- 02: "The next round starts with the tablet after this first one (1 after m), returned with each tablet's page answer". "A refused round .. returns, beside
  -- its number, every ticket as given and each stop as a refusal with that number"; 01: and 0 for all else
  unfoldable pub round_call : RoundValues
  round_call =
      on_cause round_cause (record { number = 0; next = after q.clients q.first; pages = upto answer_at 1 16 })
      (λ n. record { number = n; next = 0; pages = map (λ t. refused_page t n) q.tickets })

  -- the counters afterwards; a "refused round alters nothing"
  unfoldable pub round_counters : List ℕ
  round_counters = on_cause round_cause (each counted_at 1 q.clients) (λ n. q.counters)

  -- the table afterwards: its parts, and 02: "the rest is kept"
  unfoldable pub round_table : List ℕ
  round_table = on_cause round_cause (each filled_at 1 q.clients ++ drop (q.clients * part_size) q.table) (λ n. q.table)
