-- Tickets, answers and strips as cells: how the C interface lays them out. The number of a cause is returned; the cells of a refused answer are 0, a refused
-- fresh ticket says Ended, and a refused page leaves the ticket.
use Rattle.std.specs.Prelude.{List, [], ◌∷◌, ◌++◌, true, cond, ℕ, zero, suc, ◌+◌, ◌*◌, ◌/◌, ◌%◌, eqb, leb, get_or, drop, ℤ, pos, Float}
use Rattle.std.specs.Float.{nan}
use Rattle.lists.specs.Lists.{padded}
use Rattle.plan.specs.declared.Shape.{Shape}
use Rattle.plan.specs.Causes.{on_cause}
use Rattle.rows.specs.RowCall.{RowValues, CommonValues}
use Rattle.floats.specs.Values.{exact}
use Rattle.survey.specs.declared.Strip.{Strip}
use Rattle.survey.specs.declared.Strip.TheVariants.{Free, From, To, Between}
use Rattle.pairs.specs.PairCall.{PairValues}
use Rattle.windows.specs.HoursCall.{HoursValues}
use Rattle.paging.specs.declared.Cursor.{Cursor}
use Rattle.paging.specs.Answers.{PageValues}
use Rattle.paging.specs.declared.Ticket.{Ticket}
use Rattle.search.specs.Stops.{Stop}
use Rattle.search.specs.Stops.{Ended, Full, Spent, Refused}
use Rattle.paging.specs.Calls.{stop_number, RunValues}

-- the plan's shape of k, six sizes and six margins
abbrev pub shape_of : ℕ → List ℕ → List ℕ → Shape
shape_of k sizes margins = record { k = k; sizes = sizes; margins = margins }

-- ---- tickets: whether the walk has ended (0 or 1), the guard's layer and place, how many slots are filled, the five chosen places, the place to try
abbrev pub cursor_cells : Cursor → List ℕ
cursor_cells c = cond c.ended 1 0 ∷ c.layer ∷ c.place ∷ c.filled ∷ padded 5 c.chosen ++ c.next ∷ []

-- ... and then the count, low and high
abbrev pub ticket_cells : Ticket → List ℕ
ticket_cells t = cursor_cells t.cursor ++ t.count % 4294967296 ∷ t.count / 4294967296 ∷ []

-- stands for cells that are no cursor: it says Ended and has a layer, so the page call refuses it by 6
abbrev pub no_cursor : Cursor
no_cursor = record { ended = true; layer = 1; place = 0; filled = 0; chosen = padded 5 []; next = 0 }

-- the cursor in cells; a first cell above 1 makes them none
abbrev pub cursor_in : List ℕ → Cursor
cursor_in l =
    cond (leb (get_or l 0 0) 1)
    (record { ended = eqb (get_or l 0 0) 1; layer = get_or l 1 0; place = get_or l 2 0; filled = get_or l 3 0; chosen = padded 5 (drop 4 l); next = get_or l 9 0 })
    no_cursor

-- the ticket in cells
abbrev pub ticket_in : List ℕ → Ticket
ticket_in l = record { cursor = cursor_in l; count = get_or l 10 0 + get_or l 11 0 * 4294967296 }

-- ---- pages: why it stopped (1 Ended, 2 Full, 3 Spent), rows, probes, the whole square metres of the area sum, and its rest in square millimetres
abbrev pub stop_code : Stop → ℕ
stop_code Ended = 1
stop_code Full = 2
stop_code Spent = 3
stop_code (Refused cause) = 0

abbrev pub page_cells : PageValues → List ℕ
page_cells p = stop_code p.stop ∷ p.rows ∷ p.probes ∷ p.area.metres ∷ p.area.rest ∷ []

-- the ticket's cells afterwards: the ticket for what is due next, or after a refusal what they were
abbrev pub ticket_after : List ℕ → PageValues → List ℕ
ticket_after given p = on_cause (stop_number p.stop) (ticket_cells p.ticket) (λ n. given)

-- ---- whole runs: rows, probes, the metres and the rest of the area sum, and those of the ground counted once
abbrev pub run_cells : RunValues → List ℕ
run_cells v = v.rows ∷ v.probes ∷ v.area.metres ∷ v.area.rest ∷ v.ground.metres ∷ v.ground.rest ∷ []

-- ---- rows: the guard's layer, area
abbrev pub row_cells : RowValues → List ℕ
row_cells v = v.layer ∷ v.area ∷ []

-- ---- the common ground of a row: left, bottom, right, top, the letter of the kind
abbrev pub common_cells : CommonValues → List ℤ
common_cells v = let r = v.common in r.left ∷ r.bottom ∷ r.right ∷ r.top ∷ pos v.kind ∷ []

-- ---- pairs of layers: the lower layer, the higher
abbrev pub pair_cells : PairValues → List ℕ
pair_cells v = v.lower ∷ v.higher ∷ []

-- ---- shared minutes: the first, and the first after them
abbrev pub hours_cells : HoursValues → List ℕ
hours_cells v = v.from ∷ v.to ∷ []

-- ---- strips: a kind (0 free, 1 a lower stop, 2 an upper stop, 3 both) and two stops, of which those that the kind has not are not looked at
-- stands for a kind above 3: its lower stop is above its upper one, so 21 refuses it
abbrev pub no_strip : Strip
no_strip = Between (exact (pos 1)) (exact (pos 0))

abbrev pub strip_in : ℕ → Float → Float → Strip
strip_in zero lower upper = Free
strip_in (suc zero) lower upper = From lower
strip_in (suc (suc zero)) lower upper = To upper
strip_in (suc (suc (suc zero))) lower upper = Between lower upper
strip_in (suc (suc (suc (suc kind)))) lower upper = no_strip

-- the strips of both axes, in a kind and two stops for each
module _ (kinds : List ℕ) (stops : List Float) where
  abbrev pub across_in : Strip
  across_in = strip_in (get_or kinds 0 0) (get_or stops 0 nan) (get_or stops 1 nan)

  abbrev pub upward_in : Strip
  upward_in = strip_in (get_or kinds 1 0) (get_or stops 2 nan) (get_or stops 3 nan)
