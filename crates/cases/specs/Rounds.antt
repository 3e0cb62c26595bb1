-- A computed case of a round (02, Q-10) on the plan D: three tablets, from the second on. Proved in proofs/Rounds.antt.
use Rattle.std.specs.Prelude.{◌≡◌, [], ◌∷◌, ℕ, replicate}
use Rattle.plan.specs.Plan.{grown}
use Rattle.sweep.specs.Sweep.{sweep_order}
use Rattle.search.specs.Stops.{Stop}
use Rattle.search.specs.Stops.{Ended, Full, Spent}
use Rattle.paging.specs.Answers.{PageValues}
use Rattle.paging.specs.declared.Ticket.{Ticket}
use Rattle.paging.specs.Cursors.{ended_cursor}
use Rattle.rounds.specs.Rounds.{Request, round_call, round_counters, round_table}
use Rattle.cases.specs.Cases.{counting, first, d, d_cells}

-- four trials for three: the first tablet has a fresh ticket, the second has two trials behind it, the third is at the end. A part is one row of two cells
abbrev pub three_ask : Request
three_ask = record {
  shape = d;
  cells = d_cells;
  order = sweep_order (grown d d_cells);
  clients = 3;
  first = 2;
  budget = 4;
  tickets = counting (first 1 0 0) 0 ∷ counting (first 2 0 1) 2 ∷ counting ended_cursor 4 ∷ replicate 13 (counting ended_cursor 9);
  counters = 0 ∷ 2 ∷ 4 ∷ [];
  table = 11 ∷ 12 ∷ 21 ∷ 22 ∷ 31 ∷ 32 ∷ 40 ∷ [];
}

-- a page without a whole square metre
abbrev pub page : Stop → (rows probes rest : ℕ) → Ticket → PageValues
page stop rows probes rest ticket = record { stop = stop; rows = rows; probes = probes; area = record { metres = 0; rest = rest }; ticket = ticket }

pub record ThreeServed : Type 0 where
  -- the second tablet is offered 4 / 3 trials and does one, the third is offered 3 / 2 and needs none, so the first is offered all three that are left; its
  -- part is full behind two. The next round starts with the third
  pub answer : round_call three_ask ≡ record {
    number = 0;
    next = 3;
    pages =
        page Full 1 2 250000 (counting (first 2 0 1) 2)
        ∷ page Spent 0 1 0 (counting (first 1 1 0) 3)
        ∷ page Ended 0 0 0 (counting ended_cursor 4)
        ∷ replicate 13 (page Spent 0 0 0 (counting ended_cursor 9));
  }
  pub counters : round_counters three_ask ≡ 2 ∷ 3 ∷ 4 ∷ []
  -- the row 0 0 in the first part; the others and the last cell are kept
  pub table : round_table three_ask ≡ 0 ∷ 0 ∷ 21 ∷ 22 ∷ 31 ∷ 32 ∷ 40 ∷ []
