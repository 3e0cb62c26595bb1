-- Theorem: what a round leaves in its tickets' cells, and lists of rounds that take their tickets from there. Proved in proofs/Theorems.antt.
use Rattle.std.specs.Prelude.{◌≡◌, ◌&&◌, ℕ, suc, ◌-◌, ◌*◌, ◌≤◌, ◌<◌, ℤ, eqb, leb, length, take, drop}
use mathlib.Core.List.{List, ◌∷◌, ◌++◌, map, Memᴰ}
use Rattle.lists.specs.Lists.{keep}
use Rattle.plan.specs.declared.Shape.{Shape}
use Rattle.paging.specs.declared.Ticket.{Ticket}
use Rattle.paging.specs.Calls.{fresh_cause, fresh_call, fresh_counter}
use Rattle.paging.specs.Theorems.{answer}
use Rattle.demands.specs.Theorems.{counter_after}
use Rattle.rounds.specs.Rounds.{Request, ticket_at, counter_at, round_cause, round_call}
use Rattle.rounds.specs.Theorems.{call_of, client_page, ListHolds}
use Rattle.plan.specs.Plan.{Typed}
use Rattle.c_cells.specs.Cells.{ticket_cells, ticket_in, page_cells}
use Rattle.c_rounds.specs.RoundCells.{tickets_in, round_cells, tickets_after}

-- client t's twelve of the tickets' cells
abbrev pub ticket_cells_at : (t : ℕ) → List ℕ → List ℕ
ticket_cells_at t cells = take 12 (drop ((t - 1) * 12) cells)

-- the tickets' cells after a round
abbrev pub left_by : Request → (given : List ℕ) → List ℕ
left_by q given = tickets_after given q.clients (round_cause q) (round_call q).pages

-- of client t: twelve cells of the tickets, five of the answer
pub record RoundInCells (q : Request) (given : List ℕ) : Type 0 where
  -- the ticket that a round takes from the cells
  pub from : (t : ℕ) → 1 ≤ t → t ≤ 16 → ticket_at q t ≡ ticket_in (ticket_cells_at t given)
  -- "with each tablet's page answer": the cells of its page
  pub page : (t : ℕ) → 1 ≤ t → t ≤ 16 → take 5 (drop ((t - 1) * 5) (round_cells (round_call q).pages)) ≡ page_cells (client_page q t)
  -- after an accepted round, the ticket that the next one takes from the cells is the one that its page call returned
  pub ticket : (t : ℕ) → 1 ≤ t → t ≤ q.clients → round_cause q ≡ 0 → ticket_in (ticket_cells_at t (left_by q given)) ≡ (answer (call_of q t)).ticket
  -- "past m the ticket comes back as given", cell by cell
  pub past : (t : ℕ) → q.clients < t → t ≤ 16 → round_cause q ≡ 0 → ticket_cells_at t (left_by q given) ≡ ticket_cells_at t given
  -- "every ticket as given": all cells, after a refusal
  pub refused : (n : ℕ) → round_cause q ≡ suc n → left_by q given ≡ given

-- ---- lists of exported rounds
-- a round, and the 192 cells that its tickets are taken from
pub record CellRound : Type 0 where
  pub round : Request
  pub given : List ℕ
  pub long : length given ≡ 192
  pub tickets : round.tickets ≡ tickets_in given

-- the accepted ones that serve client t
abbrev pub serving_cells : (t : ℕ) → List CellRound → List CellRound
serving_cells t xs = keep (λ x. eqb (round_cause x.round) 0 && leb t x.round.clients) xs

-- each of these, behind those before it, brings this plan, in the client's cells what its fresh call or one of them left there, and its counter as the last of
-- them left it. Whatever a round brings for others is free, and all that a refused round, or one that does not serve it, brings
abbrev pub RoundRun : Shape → List ℤ → Ticket → (counter : List ℕ) → (t : ℕ) → List CellRound → Type 0
RoundRun s cells first counter t xs = (ys : List CellRound) (x : CellRound) (zs : List CellRound) → serving_cells t xs ≡ ys ++ x ∷ zs
    → (x.round.shape ≡ s) × (x.round.cells ≡ cells)
    × Memᴰ (ticket_cells_at t x.given) (ticket_cells first ∷ map (λ y. ticket_cells_at t (left_by y.round y.given)) ys)
    × (counter_at x.round t ≡ counter_after counter (map (λ y. call_of y.round t) ys))

pub record RoundsInCells : Type 0 where
  pub rounds : (q : Request) (given : List ℕ) → Typed q.shape → length given ≡ 192 → q.tickets ≡ tickets_in given → RoundInCells q given
  -- so what is said of lists of rounds holds of every list of exported ones, for any client whose run an accepted fresh call begins
  pub lists : (s : Shape) (cells : List ℤ) (order counter : List ℕ) (t : ℕ) (xs : List CellRound)
      → Typed s → fresh_cause s cells order counter ≡ 0 → 1 ≤ t
      → let first = (fresh_call s cells order counter).ticket in let left = fresh_counter s cells order counter in
      RoundRun s cells first left t xs → ListHolds s cells first left t (map (λ x. x.round) xs)
