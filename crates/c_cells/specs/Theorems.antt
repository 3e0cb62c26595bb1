-- Theorem: demand 3 of the exported calls, whose tickets are cells, and strips in cells. Proved in proofs/Theorems.antt.
use Rattle.std.specs.Prelude.{◌≡◌, Bool, cond, ℕ, suc, ◌+◌, ◌*◌, ◌<◌, ℤ, pos, get_or, Float}
use mathlib.Core.List.{List, [], ◌∷◌, map, Memᴰ}
use Rattle.std.proofs.Math.Option.{Option}
use Rattle.plan.specs.declared.Shape.{Shape}
use Rattle.plan.specs.Plan.{Typed}
use Rattle.search.specs.Stops.{Ended, Full, Spent, Refused}
use Rattle.rows.specs.RowCall.{RowValues, CommonValues}
use Rattle.pairs.specs.PairCall.{PairValues}
use Rattle.windows.specs.HoursCall.{HoursValues}
use Rattle.paging.specs.Answers.{PageValues}
use Rattle.paging.specs.declared.Ticket.{Ticket}
use Rattle.paging.specs.Overlays.{overlay_of}
use Rattle.paging.specs.Calls.{fresh_cause, fresh_call, fresh_counter, RunValues}
use Rattle.paging.specs.Theorems.{Call, overlay_at, cause, answer, Good}
use Rattle.demands.specs.Theorems.{tickets_of, counter_after, Each, PagingHolds, TicketsHold}
use Rattle.survey.specs.declared.Strip.TheVariants.{Free, From, To, Between}
use Rattle.survey.specs.Theorems.{SoundStops}
use Rattle.c_cells.specs.Cells.{shape_of, ticket_cells, ticket_in, stop_code, page_cells, ticket_after, run_cells}
use Rattle.c_cells.specs.Cells.{row_cells, common_cells, strip_in, across_in, upward_in, pair_cells, hours_cells}

-- a list of exported page calls in one run, timed or not, by the calls that they hand on: an accepted one brings, in its ticket's cells, what the fresh call
-- or an accepted one before it left there (`left`), and the counter as the last of them left it. A refused call may bring anything
abbrev pub CellRun : (windows : Option (List ℕ)) → Shape → List ℤ → Ticket → (counter : List ℕ) → List Call → Type 0
CellRun windows s cells t counter xs = Each windows s cells
    (λ ys x. Memᴰ x.ticket (map ticket_in (map ticket_cells (tickets_of t ys))) × (x.counter ≡ counter_after counter ys)) xs

pub record TicketsInCells : Type 0 where
  -- 01: "the guard's layer and place, how many slots are filled .., the chosen places in five cells .., first slot first, and the place to try", behind a flag
  -- for Ended; then the count, as a low and a high half: so a ticket is written and read
  pub ticket : (ended : Bool) (layer place filled first second third fourth fifth next low high : ℕ) → low < 4294967296
      → let l : List ℕ = cond ended 1 0 ∷ layer ∷ place ∷ filled
      ∷ first ∷ second ∷ third ∷ fourth ∷ fifth ∷ next ∷ low ∷ high ∷ [] in
      let t : Ticket = record {
        count = low + high * 4294967296;
        cursor = record {
          ended = ended;
          layer = layer;
          place = place;
          filled = filled;
          chosen = first ∷ second ∷ third ∷ fourth ∷ fifth ∷ [];
          next = next;
        };
      } in
      (ticket_cells t ≡ l) × (ticket_in l ≡ t)
  -- cells with a flag above 1 are no good ticket: where no earlier cause applies, 6 refuses them (paging, `page_causes`)
  pub refused : (x : Call) (given : List ℕ) → x.ticket ≡ ticket_in given → 1 < get_or given 0 0 → Good (overlay_at x) x.ticket.cursor → ⊥
  -- an accepted call leaves the cells of the ticket that it returns, which is read back from them (`ticket`); a refused one leaves the cells as they were
  pub left : (x : Call) (given : List ℕ) → cause x ≡ 0 → ticket_after given (answer x) ≡ ticket_cells (answer x).ticket
  pub kept : (x : Call) (given : List ℕ) (n : ℕ) → cause x ≡ suc n → ticket_after given (answer x) ≡ given
  -- what demand 3 says of lists of calls, of every list of exported ones in the run that an accepted fresh call begins
  pub paging : (windows : Option (List ℕ)) (s : Shape) (cells : List ℤ) (order counter : List ℕ) (xs : List Call) → Typed s
      → fresh_cause s cells order counter ≡ 0 → let t = (fresh_call s cells order counter).ticket in let begun = fresh_counter s cells order counter in
      CellRun windows s cells t begun xs → PagingHolds (overlay_of windows s cells) xs × TicketsHold t begun xs

-- what calls are handed and answer, cell by cell
pub record AnswersInCells : Type 0 where
  -- a plan's shape is handed over as k, six sizes and six margins, in this order
  pub shape : (k : ℕ) (sizes margins : List ℕ) → shape_of k sizes margins ≡ record { k = k; sizes = sizes; margins = margins }
  -- 02, Q-13: "kept as whole square metres and a rest": a page is why it stopped, rows, probes, metres and rest
  pub page : (p : PageValues) → page_cells p ≡ stop_code p.stop ∷ p.rows ∷ p.probes ∷ p.area.metres ∷ p.area.rest ∷ []
  -- why it stopped, and 0 after a refusal
  pub stops : (stop_code Ended ≡ 1) × (stop_code Full ≡ 2) × (stop_code Spent ≡ 3) × ((cause : ℕ) → stop_code (Refused cause) ≡ 0)
  -- a whole run: rows, probes, the area sum, and ground counted once
  pub run : (v : RunValues) → run_cells v ≡ v.rows ∷ v.probes ∷ v.area.metres ∷ v.area.rest ∷ v.ground.metres ∷ v.ground.rest ∷ []
  -- a row: the guard's layer and the area
  pub row : (v : RowValues) → row_cells v ≡ v.layer ∷ v.area ∷ []
  -- a row's common ground: left, bottom, right and top, then the letter of its kind
  pub common : (v : CommonValues) → let r = v.common in common_cells v ≡ r.left ∷ r.bottom ∷ r.right ∷ r.top ∷ pos v.kind ∷ []
  -- a pair of layers: the lower, then the higher
  pub pair : (v : PairValues) → pair_cells v ≡ v.lower ∷ v.higher ∷ []
  -- 02, Q-12: "the first shared minute and the first after them"
  pub hours : (v : HoursValues) → hours_cells v ≡ v.from ∷ v.to ∷ []

pub record StripsInCells : Type 0 where
  -- the kinds, and which stop stands where
  pub kinds : (lower upper : Float)
      → (strip_in 0 lower upper ≡ Free) × (strip_in 1 lower upper ≡ From lower) × (strip_in 2 lower upper ≡ To upper)
      × (strip_in 3 lower upper ≡ Between lower upper)
  pub stops : (j k : ℕ) (left right bottom top : Float) → let kinds = j ∷ k ∷ [] in let stops = left ∷ right ∷ bottom ∷ top ∷ [] in
      (across_in kinds stops ≡ strip_in j left right) × (upward_in kinds stops ≡ strip_in k bottom top)
  -- a kind above 3 has no sound stops: 21 refuses it, on either axis
  pub none : (kind : ℕ) (lower upper : Float) → 3 < kind → SoundStops (strip_in kind lower upper) → ⊥
