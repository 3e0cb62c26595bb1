-- What the functions of the round call ask of their callers and promise one another; no public call's contract cites it.
use Rattle.std.specs.Prelude.{◌≡◌, List, ◌++◌, map, ℕ, zero, suc, ◌*◌, ℤ, take, drop}
use Rattle.std.proofs.Math.Option.{none}
use Rattle.lists.specs.Lists.{each, upto}
use Rattle.totals.specs.Totals.{total_of}
use Rattle.geometry.specs.declared.Rect.{Rect}
use Rattle.plan.specs.declared.Shape.{Shape}
use Rattle.plan.specs.Plan.{sizes_of, grown, Sound}
use Rattle.plan.specs.Causes.{◌or_else◌}
use Rattle.sweep.specs.Sweep.{order_cause}
use Rattle.search.specs.Stops.{Stop}
use Rattle.search.specs.Stops.{Refused}
use Rattle.paging.specs.Answers.{PageValues}
use Rattle.paging.specs.declared.Ticket.{Ticket}
use Rattle.paging.specs.Overlays.{Overlay}
use Rattle.paging.specs.Calls.{page_cause}
use Rattle.slots.specs.declared.Frame.{Frame}
use Rattle.slots.specs.Frames.{frame_sizes}
use Rattle.pager.specs.Answers.{PagedAt}
use Rattle.rounds.specs.Rounds.{RoundValues}
use Rattle.rounds.specs.Rounds.{Request, ticket_of, counter_of, part_size, counted_at, filled_at, answer_at, round_call, round_counters, round_table}

-- the request of a round with these arguments
abbrev pub request : Shape → List ℤ → List ℕ → (clients first budget : ℕ) → List Ticket → (counters table : List ℕ) → Request
request s cells order m first budget tickets counters table = record {
  shape = s;
  cells = cells;
  order = order;
  clients = m;
  first = first;
  budget = budget;
  tickets = tickets;
  counters = counters;
  table = table;
}

-- the first cause that refuses one of n clients from t on
abbrev pub cause_from : Shape → List ℤ → (order : List ℕ) → List Ticket → (counters : List ℕ) → (t n : ℕ) → ℕ
cause_from s cells order tickets counters t zero = 0
cause_from s cells order tickets counters t (suc n) =
    page_cause none s cells order (ticket_of tickets t) (counter_of counters t) or_else cause_from s cells order tickets counters (suc t) n

-- a page that did nothing
abbrev pub empty_page : Stop → Ticket → PageValues
empty_page stop t = record { stop = stop; rows = 0; probes = 0; area = total_of 0; ticket = t }

abbrev pub refused_round : ℕ → List Ticket → RoundValues
refused_round cause tickets = record { number = cause; next = 0; pages = map (empty_page (Refused cause)) tickets }

-- a plan that its checks let through, the cells of its grown plan, and its frame
pub record Opens (s : Shape) (plain : List ℤ) (order : List ℕ) (here : List ℤ) (f : Frame) : Type 0 where
  pub sound : Sound s plain
  pub passed : order_cause s plain order ≡ 0
  pub is : here ≡ grown s plain
  pub k : f.k ≡ s.k
  pub sizes : frame_sizes f ≡ sizes_of s

-- P holds of each such plan
abbrev pub OnPlans : (order : List ℕ) → List ℤ → Frame → (Shape → List ℤ → Type 0) → Type 0
OnPlans order here f P = (s : Shape) (plain : List ℤ) → Opens s plain order here f → P s plain

-- a page call with the counter at a place and the part of this size there, which are put back
pub record OneServed (o : Overlay Rect) (t : Ticket) (at size budget : ℕ) (held lent : List ℕ) (r : PageValues) (heldAfter lentAfter : List ℕ) : Type 0 where
  pub counted : List ℕ
  pub filled : List ℕ
  pub page : PagedAt o t (take 1 (drop at held)) budget (take size (drop (at * size) lent)) r counted filled
  pub counters : heldAfter ≡ take at held ++ (counted ++ drop 1 (drop at held))
  pub table : lentAfter ≡ take (at * size) lent ++ (filled ++ drop size (drop (at * size) lent))

-- all clients are served
pub record AllServed (q : Request) (r : List PageValues) (counted filled : List ℕ) : Type 0 where
  pub pages : r ≡ upto (answer_at q) 1 16
  pub counters : counted ≡ each (counted_at q) 1 q.clients
  pub table : filled ≡ each (filled_at q) 1 q.clients ++ drop (q.clients * part_size q) q.table

-- the promise of the round call
pub record RoundAnswered (q : Request) (r : RoundValues) (counted filled : List ℕ) : Type 0 where
  pub answer : r ≡ round_call q
  pub counters : counted ≡ round_counters q
  pub table : filled ≡ round_table q
