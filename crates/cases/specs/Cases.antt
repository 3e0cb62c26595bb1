-- Theorem: the cases of 01's "Ground to check" that are marked (P), those of its "The report", and a few of our own, as one list, and what it means that a
-- case holds of the definitions.
use Rattle.std.specs.Prelude.{◌≡◌, false, List, [], ◌∷◌, ◌++◌, map, ℕ, suc, ◌*◌, ℤ, pos, neg_ℤ, length, replicate, Option, Some, None, Result, Ok, Err}
use Rattle.std.proofs.Math.Option.{none, some}
use Prim.Native.Char.{code}
use Prim.Native.String.{String}
use Rattle.lists.specs.Lists.{All}
use Rattle.totals.specs.Totals.{total_of, value_of}
use Rattle.geometry.specs.declared.Rect.{Rect}
use Rattle.geometry.specs.declared.Kind.TheVariants.{Ground, Edge, Point}
use Rattle.plan.specs.declared.Shape.{Shape}
use Rattle.plan.specs.Plan.{sizes_of, layers, plan_cause, grown}
use Rattle.sweep.specs.Sweep.{sweep_order, order_answer, order_number}
use Rattle.join.specs.Table.{plan_table}
use Rattle.rows.specs.declared.Row.{Row}
use Rattle.rows.specs.declared.CommonGround.{CommonGround}
use Rattle.rows.specs.RowCall.{row_call, row_values, common_call, common_values}
use Rattle.walk.specs.Walk.{walk_of}
use Rattle.windows.specs.declared.Window.{Window}
use Rattle.windows.specs.HoursCall.{hours_cause, hours_call, hours_values}
use Rattle.timed.specs.Timed.{timed_walk_of, timed_table_of}
use Rattle.paging.specs.declared.Cursor.{Cursor}
use Rattle.paging.specs.declared.Ticket.{Ticket}
use Rattle.search.specs.Stops.{Stop}
use Rattle.search.specs.Stops.{Ended, Full, Spent}
use Rattle.paging.specs.Cursors.{ended_cursor}
use Rattle.paging.specs.Calls.{fresh_call, fresh_counter, page_cause, page_call, page_table, page_counter}
use Rattle.text.specs.Plans.{text_of}
use Rattle.text.specs.Reader.{read_answer, ReadValues, read_values, cells_after}
use Rattle.printing.specs.Lines.{row_line, hundredths, square_metres, refused_line}
use Rattle.reporting.specs.Report.{report_of}

-- ---- what cases are made of
-- a row as the report tells it: the guard's layer, the places, the area, the letter of the kind
pub record Told : Type 0 where
  pub layer : ℕ
  pub places : List ℕ
  pub area : ℕ
  pub kind : ℕ

-- a page call's budget and table, and what it must answer: stop, rows, probes, the area sum as whole square metres and a rest, the table afterwards, the
-- ticket
pub record Turn : Type 0 where
  pub budget : ℕ
  pub table : List ℕ
  pub stop : Stop
  pub rows : ℕ
  pub probes : ℕ
  pub metres : ℕ
  pub rest : ℕ
  pub after : List ℕ
  pub due : Ticket

-- a row, the first minute that its windows share, and the first after them
pub record Shared : Type 0 where
  pub places : List ℕ
  pub from : ℕ
  pub to : ℕ

pub data Case : Type 0 where
  -- a plan is refused with this cause, or with 0 is sound
  Caused : Shape → List ℤ → ℕ → Case
  -- the table of a plan, and its walk's length
  Listed : Shape → List ℤ → List Told → ℕ → Case
  -- the cursor of a plan's fresh ticket
  Fresh : Shape → List ℤ → Cursor → Case
  -- a text, lent cells, what the reader must answer, and the cells afterwards
  Read : List ℕ → List ℤ → ReadValues → List ℤ → Case
  -- page calls, one after the other, from the fresh ticket on
  Paged : Shape → List ℤ → List Turn → Case
  -- a ticket and a counter, and the cause of a page call that brings them, or 0
  Judged : Shape → List ℤ → Ticket → List ℕ → ℕ → Case
  -- the windows of a plan, and the cause of plan and windows, or 0
  Windowed : Shape → List ℤ → (hours : List ℕ) → ℕ → Case
  -- ... the cells of a row, what the call for its shared minutes answers, and the answer's number, first shared minute and first after them
  Asked : Shape → List ℤ → (hours row : List ℕ) → Result (Option Window) ℕ → (number from to : ℕ) → Case
  -- ... the rows of the timed table, each with the first minute that its windows share and the first after them, and the timed walk's length
  Timed : Shape → List ℤ → (hours : List ℕ) → List Shared → ℕ → Case
  -- an area sum, the whole square metres and the rest that it is kept as, and the square metres that are printed for it
  Rounded : (area_sum metres rest : ℕ) → List ℕ → Case
  -- a text, and what is printed for it
  Reported : List ℕ → List ℕ → Case
  -- a sound plan, the places of a row, and the line that is printed for it
  RowPrinted : Shape → List ℤ → (row : List ℕ) → List ℕ → Case
  -- a cause, and the line that is printed for its refusal
  RefusalPrinted : ℕ → List ℕ → Case
  -- a sound plan, and its text
  Written : Shape → List ℤ → List ℕ → Case
  -- what the order maker answers where no check refuses, and where one does; their numbers are 0 and the cause
  Ordered : Result (Unit {0}) ℕ → (ℕ → Result (Unit {0}) ℕ) → Case
  -- the cells of a row, what the row call answers, and the answer's number, guard's layer and area
  Measured : Shape → List ℤ → (row : List ℕ) → Result (Option Row) ℕ → (number layer area : ℕ) → Case
  -- ... what the call for its common ground answers, and the answer's number, letter and rectangle
  Grounded : Shape → List ℤ → (row : List ℕ) → Result (Option CommonGround) ℕ → (number kind : ℕ) → Rect → Case

-- what the row call and the call for its common ground tell of a row
abbrev pub told_row : Shape → List ℤ → List ℕ → Told
told_row s cells row =
    let v = row_values (row_call s cells row) in
    record { layer = v.layer; places = row; area = v.area; kind = (common_values (common_call s cells row)).kind }

-- what the call for its shared minutes tells of a row
abbrev pub told_hours : Shape → List ℤ → (hours row : List ℕ) → Shared
told_hours s cells hours row = let v = hours_values (hours_call s cells hours row) in record { places = row; from = v.from; to = v.to }

-- the ticket of a cursor and a count
abbrev pub counting : Cursor → ℕ → Ticket
counting c n = record { cursor = c; count = n }

-- each turn goes on with the ticket and the counter that the turn before left
abbrev pub Turns : Shape → List ℤ → Ticket → List ℕ → List Turn → Type 0
Turns s cells t counter [] = Unit {0}
Turns s cells t counter (x ∷ xs) =
    let order = sweep_order (grown s cells) in
    let p = page_call none s cells order t counter x.budget x.table in
    let counted = page_counter none s cells order t counter x.budget x.table in
    (p.stop ≡ x.stop) × (p.rows ≡ x.rows) × (p.probes ≡ x.probes) × (p.area ≡ record { metres = x.metres; rest = x.rest })
    × (page_table none s cells order t counter x.budget x.table ≡ x.after)
    × (p.ticket ≡ x.due)
    × (counted ≡ x.due.count ∷ [])
    × Turns s cells p.ticket counted xs

abbrev pub Holds : Case → Type 0
Holds (Caused s cells cause) = plan_cause s cells ≡ cause
Holds (Listed s cells rows probes) =
    (plan_cause s cells ≡ 0) × (map (told_row s cells) (plan_table s cells) ≡ rows) × (length (walk_of (sizes_of s) (grown s cells)) ≡ probes)
Holds (Fresh s cells c) =
    let order = sweep_order (grown s cells) in
    (fresh_call s cells order (7 ∷ []) ≡ record { number = 0; ticket = counting c 0 }) × (fresh_counter s cells order (7 ∷ []) ≡ 0 ∷ [])
Holds (Read t cells r after) = (read_values (read_answer (length cells) t) ≡ r) × (cells_after t cells ≡ after)
Holds (Paged s cells ts) =
    let order = sweep_order (grown s cells) in
    Turns s cells (fresh_call s cells order (7 ∷ [])).ticket (fresh_counter s cells order (7 ∷ [])) ts
Holds (Judged s cells t counter cause) = page_cause none s cells (sweep_order (grown s cells)) t counter ≡ cause
Holds (Windowed s cells hours cause) = hours_cause (some hours) s cells ≡ cause
Holds (Asked s cells hours row answer number from to) =
    (hours_call s cells hours row ≡ answer) × (hours_values answer ≡ record { number = number; from = from; to = to })
Holds (Timed s cells hours rows probes) =
    (hours_cause (some hours) s cells ≡ 0) × (map (told_hours s cells hours) (timed_table_of (sizes_of s) (grown s cells) hours) ≡ rows)
    × (length (timed_walk_of (sizes_of s) (grown s cells) hours) ≡ probes)
Holds (Rounded area_sum metres rest printed) =
    (total_of area_sum ≡ record { metres = metres; rest = rest }) × (square_metres (hundredths (value_of (total_of area_sum))) ≡ printed)
Holds (Reported t printed) = report_of t ≡ printed
Holds (RowPrinted s cells row printed) = (plan_cause s cells ≡ 0) × (row_line (layers s cells) row ≡ printed)
Holds (RefusalPrinted cause printed) = refused_line cause ≡ printed
Holds (Written s cells t) = (plan_cause s cells ≡ 0) × (text_of s cells ≡ t)
Holds (Ordered made refused) =
    (order_answer 0 ≡ made) × (order_number made ≡ 0)
    × ((n : ℕ) → (order_answer (suc n) ≡ refused (suc n)) × (order_number (refused (suc n)) ≡ suc n))
Holds (Measured s cells row answer number layer area) =
    (row_call s cells row ≡ answer) × (row_values answer ≡ record { number = number; layer = layer; area = area })
Holds (Grounded s cells row answer number kind common) =
    (common_call s cells row ≡ answer) × (common_values answer ≡ record { number = number; kind = kind; common = common })

-- ---- the plans
abbrev pub box : (left bottom right top : ℕ) → List ℤ → List ℤ
box l b r t rest = pos l ∷ pos b ∷ pos r ∷ pos t ∷ rest

-- the largest rectangle of a plan
abbrev pub widest : List ℤ → List ℤ
widest rest = neg_ℤ (pos 10000000) ∷ neg_ℤ (pos 10000000) ∷ pos 10000000 ∷ pos 10000000 ∷ rest

abbrev pub margined : (first second third : ℕ) (k a b c : ℕ) → Shape
margined m n o k a b c = record { k = k; sizes = a ∷ b ∷ c ∷ 0 ∷ 0 ∷ 0 ∷ []; margins = m ∷ n ∷ o ∷ 0 ∷ 0 ∷ 0 ∷ [] }

-- with all margins 0
abbrev pub shape : (k first second third : ℕ) → Shape
shape = margined 0 0 0

abbrev pub row : ℕ → List ℕ → ℕ → ℕ → Told
row layer places area kind = record { layer = layer; places = places; area = area; kind = kind }

abbrev pub shared : List ℕ → (from to : ℕ) → Shared
shared places from to = record { places = places; from = from; to = to }

-- a common ground
abbrev pub rect : (left bottom right top : ℕ) → Rect
rect l b r t = record { left = pos l; bottom = pos b; right = pos r; top = pos t }

-- the letters of the kinds
abbrev pub G : ℕ
G = 71

abbrev pub E : ℕ
E = 69

abbrev pub P : ℕ
P = 80

abbrev pub turn : ℕ → List ℕ → Stop → (rows probes metres rest : ℕ) → List ℕ → Ticket → Turn
turn budget table stop rows probes metres rest after due =
    record { budget = budget; table = table; stop = stop; rows = rows; probes = probes; metres = metres; rest = rest; after = after; due = due }

-- the cursor of a probe of the first slot: the guard's layer and place, and the place to try
abbrev pub first : (layer place next : ℕ) → Cursor
first layer place next = record { ended = false; layer = layer; place = place; filled = 0; chosen = 0 ∷ 0 ∷ 0 ∷ 0 ∷ 0 ∷ []; next = next }

-- the plan D
abbrev pub d : Shape
d = shape 2 2 1 0

abbrev pub d_cells : List ℤ
d_cells = box 0 0 1000 1000 (box 1000 0 2000 500 (box 500 500 1500 1500 []))

-- tables of two and of ten cells, of which the first two are these
abbrev pub two : ℕ → ℕ → List ℕ
two a b = a ∷ b ∷ []

abbrev pub ten : ℕ → ℕ → List ℕ
ten a b = a ∷ b ∷ 7 ∷ 7 ∷ 7 ∷ 7 ∷ 7 ∷ 7 ∷ 7 ∷ 7 ∷ []

-- one rectangle, and the same twice
abbrev pub one : List ℤ
one = box 2 2 4 4 []

abbrev pub two_alike : List ℤ
two_alike = box 2 2 4 4 one

-- a plan of three layers: the rows of its one guard that has any, of layer 2, differ by their area
abbrev pub three : List ℤ
three = box 0 0 10 10 (box 0 0 10 9 (box 5 0 10 10 (box 1 0 10 10 (box 2 0 8 10 []))))

-- three layers of one rectangle: the first two share ground and touch the third in a point
abbrev pub corner : List ℤ
corner = box 0 0 10 10 (box 5 5 10 10 (box 10 10 20 20 []))

-- the cells of n rectangles that are all the point 0, 0
abbrev pub alike : ℕ → List ℤ
alike n = replicate (4 * n) (pos 0)

-- two rectangles with a gap of 1
abbrev pub apart : List ℤ
apart = box 0 0 9 5 (box 10 0 20 5 [])

-- a plan of four layers, of which the second has eleven rectangles: the last ones of the layers share ground, the others are all the point 0, 0
abbrev pub four : Shape
four = record { k = 4; sizes = 3 ∷ 11 ∷ 2 ∷ 1 ∷ 0 ∷ 0 ∷ []; margins = 0 ∷ 0 ∷ 0 ∷ 0 ∷ 0 ∷ 0 ∷ [] }

abbrev pub four_cells : List ℤ
four_cells = alike 2 ++ box 100 0 430 300 (alike 10 ++ box 50 20 450 77 (alike 1 ++ box 200 10 600 90 (box 0 5 500 500 [])))

-- a plan of six layers whose margins all differ, as do the four numbers of each rectangle
abbrev pub six : Shape
six = record { k = 6; sizes = 1 ∷ 3 ∷ 0 ∷ 2 ∷ 0 ∷ 1 ∷ []; margins = 5 ∷ 40 ∷ 0 ∷ 50000 ∷ 7 ∷ 123 ∷ [] }

abbrev pub six_cells : List ℤ
six_cells =
    neg_ℤ (pos 10) ∷ neg_ℤ (pos 200) ∷ pos 30 ∷ pos 4
    ∷ box 1 2 3 4 (box 5 6 7 8 (neg_ℤ (pos 9000) ∷ pos 10 ∷ pos 11 ∷ pos 1200
    ∷ box 13 14 15 16 (neg_ℤ (pos 10000000) ∷ pos 17 ∷ pos 10000000 ∷ pos 18
    ∷ box 19 20 21 22 [])))

-- ---- the texts
-- the bytes of a quoted text of characters below 128
abbrev pub bytes : String → List ℕ
bytes String.[] = []
bytes (String.◌∷◌ c s) = code c ∷ bytes s

-- a text that is sound where the right of its RECT, spelled so, is from 0 to 10000000
abbrev pub text_with : String → List ℕ
text_with right = bytes "PLAN\t2\nLAYER\t1\t0\nRECT\t0\t0\t" ++ bytes right ++ bytes "\t5\nLAYER\t0\t0\n"

-- that it is refused: the lent cells stay
abbrev pub is_refused : List ℕ → ℕ → Case
is_refused t cause = Read t (box 7 7 7 7 []) (record { number = cause; shape = shape 0 0 0 0 }) (box 7 7 7 7 [])

-- the plan D as a text, byte by byte: PLAN 2 / LAYER 2 0 / RECT 0 0 1000 1000 / RECT 1000 0 2000 500 / LAYER 1 0 / RECT 500 500 1500 1500
abbrev pub d_text : List ℕ
d_text =
    80 ∷ 76 ∷ 65 ∷ 78 ∷ 9 ∷ 50 ∷ 10
    ∷ 76 ∷ 65 ∷ 89 ∷ 69 ∷ 82 ∷ 9 ∷ 50 ∷ 9 ∷ 48 ∷ 10
    ∷ 82 ∷ 69 ∷ 67 ∷ 84 ∷ 9 ∷ 48 ∷ 9 ∷ 48 ∷ 9 ∷ 49 ∷ 48 ∷ 48 ∷ 48 ∷ 9 ∷ 49 ∷ 48 ∷ 48 ∷ 48 ∷ 10
    ∷ 82 ∷ 69 ∷ 67 ∷ 84 ∷ 9 ∷ 49 ∷ 48 ∷ 48 ∷ 48 ∷ 9 ∷ 48 ∷ 9 ∷ 50 ∷ 48 ∷ 48 ∷ 48 ∷ 9 ∷ 53 ∷ 48 ∷ 48 ∷ 10
    ∷ 76 ∷ 65 ∷ 89 ∷ 69 ∷ 82 ∷ 9 ∷ 49 ∷ 9 ∷ 48 ∷ 10
    ∷ 82 ∷ 69 ∷ 67 ∷ 84 ∷ 9 ∷ 53 ∷ 48 ∷ 48 ∷ 9 ∷ 53 ∷ 48 ∷ 48 ∷ 9 ∷ 49 ∷ 53 ∷ 48 ∷ 48 ∷ 9 ∷ 49 ∷ 53 ∷ 48 ∷ 48 ∷ 10
    ∷ []

-- its report: ROW 2 0 0 250000 G / ROW 1 1 0 0 E / TOTAL 2 4 0.25
abbrev pub d_report : List ℕ
d_report =
    82 ∷ 79 ∷ 87 ∷ 9 ∷ 50 ∷ 9 ∷ 48 ∷ 9 ∷ 48 ∷ 9 ∷ 50 ∷ 53 ∷ 48 ∷ 48 ∷ 48 ∷ 48 ∷ 9 ∷ 71 ∷ 10
    ∷ 82 ∷ 79 ∷ 87 ∷ 9 ∷ 49 ∷ 9 ∷ 49 ∷ 9 ∷ 48 ∷ 9 ∷ 48 ∷ 9 ∷ 69 ∷ 10
    ∷ 84 ∷ 79 ∷ 84 ∷ 65 ∷ 76 ∷ 9 ∷ 50 ∷ 9 ∷ 52 ∷ 9 ∷ 48 ∷ 46 ∷ 50 ∷ 53 ∷ 10
    ∷ []

-- PLAN 2 / LAYER 1 0 / RECT -30 -4, a right, 5 / LAYER 0 0, byte by byte
abbrev pub bytes_with : List ℕ → List ℕ
bytes_with right =
    80 ∷ 76 ∷ 65 ∷ 78 ∷ 9 ∷ 50 ∷ 10
    ∷ 76 ∷ 65 ∷ 89 ∷ 69 ∷ 82 ∷ 9 ∷ 49 ∷ 9 ∷ 48 ∷ 10
    ∷ 82 ∷ 69 ∷ 67 ∷ 84 ∷ 9 ∷ 45 ∷ 51 ∷ 48 ∷ 9 ∷ 45 ∷ 52 ∷ 9
    ∷ (right ++ 9 ∷ 53 ∷ 10
    ∷ 76 ∷ 65 ∷ 89 ∷ 69 ∷ 82 ∷ 9 ∷ 48 ∷ 9 ∷ 48 ∷ 10 ∷ [])

-- REFUSED 9
abbrev pub refused_nine : List ℕ
refused_nine = 82 ∷ 69 ∷ 70 ∷ 85 ∷ 83 ∷ 69 ∷ 68 ∷ 9 ∷ 57 ∷ 10 ∷ []

-- REFUSED 10
abbrev pub refused_ten : List ℕ
refused_ten = 82 ∷ 69 ∷ 70 ∷ 85 ∷ 83 ∷ 69 ∷ 68 ∷ 9 ∷ 49 ∷ 48 ∷ 10 ∷ []

-- REFUSED 13
abbrev pub refused_thirteen : List ℕ
refused_thirteen = 82 ∷ 69 ∷ 70 ∷ 85 ∷ 83 ∷ 69 ∷ 68 ∷ 9 ∷ 49 ∷ 51 ∷ 10 ∷ []

-- ROW 3 2 10 1 0 13110 G
abbrev pub four_line : List ℕ
four_line =
    82 ∷ 79 ∷ 87 ∷ 9 ∷ 51 ∷ 9 ∷ 50 ∷ 9 ∷ 49 ∷ 48 ∷ 9 ∷ 49 ∷ 9 ∷ 48 ∷ 9 ∷ 49 ∷ 51 ∷ 49 ∷ 49 ∷ 48 ∷ 9 ∷ 71 ∷ 10 ∷ []

-- the text of the plan of six layers
abbrev pub six_text : List ℕ
six_text =
    bytes "PLAN\t6\nLAYER\t1\t5\nRECT\t-10\t-200\t30\t4\n"
    ++ bytes "LAYER\t3\t40\nRECT\t1\t2\t3\t4\nRECT\t5\t6\t7\t8\nRECT\t-9000\t10\t11\t1200\n"
    ++ bytes "LAYER\t0\t0\nLAYER\t2\t50000\nRECT\t13\t14\t15\t16\nRECT\t-10000000\t17\t10000000\t18\n"
    ++ bytes "LAYER\t0\t7\nLAYER\t1\t123\nRECT\t19\t20\t21\t22\n"

-- a plan of two rows of 4,900 square millimetres that share no ground, and its report
abbrev pub small_text : List ℕ
small_text = bytes "PLAN\t2\nLAYER\t1\t0\nRECT\t0\t0\t70\t170\nLAYER\t2\t0\nRECT\t0\t0\t70\t70\nRECT\t0\t100\t70\t170\n"

abbrev pub small_report : List ℕ
small_report = bytes "ROW\t1\t0\t0\t4900\tG\nROW\t1\t0\t1\t4900\tG\nTOTAL\t2\t4\t0.01\n"

-- a plan of three layers whose first two rectangles share ground and touch the third in a point, and its report
abbrev pub corner_text : List ℕ
corner_text = bytes "PLAN\t3\nLAYER\t1\t0\nRECT\t0\t0\t10\t10\nLAYER\t1\t0\nRECT\t5\t5\t10\t10\nLAYER\t1\t0\nRECT\t10\t10\t20\t20\n"

abbrev pub corner_report : List ℕ
corner_report = bytes "ROW\t3\t0\t0\t0\t0\tP\nTOTAL\t1\t5\t0.00\n"

-- one of two rows over the same square metre, and its report
abbrev pub twice_text : List ℕ
twice_text = bytes "PLAN\t2\nLAYER\t1\t0\nRECT\t0\t0\t1000\t1000\nLAYER\t2\t0\nRECT\t0\t0\t1000\t1000\nRECT\t0\t0\t1000\t1000\n"

abbrev pub twice_report : List ℕ
twice_report = bytes "ROW\t1\t0\t0\t1000000\tG\nROW\t1\t0\t1\t1000000\tG\nTOTAL\t2\t4\t1.00\n"

-- ---- the list
abbrev pub cases : List Case
cases =
    -- "D: two rows, four trials." 02: "the first row is G, the second E"
    Listed d d_cells (row 2 (0 ∷ 0 ∷ []) 250000 G ∷ row 1 (1 ∷ 0 ∷ []) 0 E ∷ []) 4
    -- "D, budget 2, ten cells: one row, Spent; again: one row, Ended."
    ∷ Paged d d_cells
    (turn 2 (ten 7 7) Spent 1 2 0 250000 (ten 0 0) (counting (first 2 0 1) 2) ∷ turn 2 (ten 7 7) Ended 1 2 0 0 (ten 1 0) (counting ended_cursor 4) ∷ [])
    -- "D, a table of two cells, budget 9: two trials, Full; again: two trials, Ended."
    ∷ Paged d d_cells
    (turn 9 (two 7 7) Full 1 2 0 250000 (two 0 0) (counting (first 2 0 1) 2) ∷ turn 9 (two 7 7) Ended 1 2 0 0 (two 1 0) (counting ended_cursor 4) ∷ [])
    -- "D, budget 0 and no cells: Full."
    ∷ Paged d d_cells (turn 0 [] Full 0 0 0 0 [] (counting (first 1 0 0) 0) ∷ [])
    -- "One equal rectangle in each of two layers: one row, guard in layer 1, two trials."
    ∷ Listed (shape 2 1 1 0) two_alike (row 1 (0 ∷ 0 ∷ []) 4 G ∷ []) 2
    -- "Sizes 1 and 0: no trials, fresh ticket Ended."
    ∷ Listed (shape 2 1 0 0) one [] 0
    ∷ Fresh (shape 2 1 0 0) one ended_cursor
    -- "Sizes 1, 1, 0 with the two equal: two trials, no row."
    ∷ Listed (shape 3 1 1 0) two_alike [] 2
    -- "the right of one at 9 and the left of the other at 10: no row; at 10 and 10: a row"
    ∷ Listed (shape 2 1 1 0) apart [] 2
    ∷ Listed (shape 2 1 1 0) (box 0 0 10 5 (box 10 0 20 5 [])) (row 2 (0 ∷ 0 ∷ []) 0 E ∷ []) 2
    -- "As the right of a RECT at left 0, in a text otherwise sound: -0 and 07 give 9; .. 1000000 is read." 02, Q-13: "1000001 in 01's case is then read,
    -- 10000001 gives 10"
    ∷ is_refused (text_with "-0") 9
    ∷ is_refused (text_with "07") 9
    ∷ is_refused (text_with "10000001") 10
    ∷ Read (text_with "1000001") (box 7 7 7 7 (pos 7 ∷ [])) (record { number = 0; shape = shape 2 1 0 0 }) (box 0 0 1000001 5 (pos 7 ∷ []))
    ∷ Read (text_with "10000000") (box 7 7 7 7 (pos 7 ∷ [])) (record { number = 0; shape = shape 2 1 0 0 }) (box 0 0 10000000 5 (pos 7 ∷ []))
    ∷ Read (text_with "1000000") (box 7 7 7 7 (pos 7 ∷ [])) (record { number = 0; shape = shape 2 1 0 0 }) (box 0 0 1000000 5 (pos 7 ∷ []))
    -- "Empty text gives 9. A text without its last byte 10 gives 9."
    ∷ is_refused [] 9
    ∷ is_refused (bytes "PLAN\t2\nLAYER\t0\t0\nLAYER\t0\t0") 9
    -- ours: numbers that no plan has are well formed and 10, but for one of nine digits; a text may end behind its PLAN line. Behind the
    -- size -1 there is one RECT line, so nothing but the minus is wrong
    ∷ is_refused (bytes "PLAN\t-2\nLAYER\t0\t0\nLAYER\t0\t0\n") 10
    ∷ is_refused (bytes "PLAN\t2\nLAYER\t-1\t0\nRECT\t0\t0\t1\t1\nLAYER\t0\t0\n") 10
    ∷ is_refused (bytes "PLAN\t7\nLAYER\t0\t0\nLAYER\t0\t0\nLAYER\t0\t0\nLAYER\t0\t0\nLAYER\t0\t0\nLAYER\t0\t0\nLAYER\t0\t0\n") 10
    ∷ is_refused (bytes "PLAN\t99999999\nLAYER\t0\t0\nLAYER\t0\t0\n") 10
    ∷ is_refused (bytes "PLAN\t100000000\nLAYER\t0\t0\nLAYER\t0\t0\n") 9
    ∷ is_refused (bytes "PLAN\t2\n") 10
    -- ours: a size of 513 is well formed, so not 9; that is all this shows, since its RECT lines are missing too
    ∷ is_refused (bytes "PLAN\t2\nLAYER\t513\t0\nLAYER\t0\t0\n") 10
    -- "512 is a size, 513 gives 2"
    ∷ Caused (shape 2 512 0 0) (alike 512) 0
    ∷ Caused (shape 2 513 0 0) [] 2
    -- "4,999 gives 0.00, 5,000 gives 0.01"
    ∷ Rounded 4999 0 4999 (bytes "0.00")
    ∷ Rounded 5000 0 5000 (bytes "0.01")
    ∷ Rounded 250000 0 250000 (bytes "0.25")
    -- 02, Q-13: "Rounding up at half a hundredth carries into the whole metres."
    ∷ Rounded 994999 0 994999 (bytes "0.99")
    ∷ Rounded 995000 0 995000 (bytes "1.00")
    ∷ Rounded 9994999 9 994999 (bytes "9.99")
    ∷ Rounded 9995000 9 995000 (bytes "10.00")
    ∷ Rounded 999995000 999 995000 (bytes "1000.00")
    -- "a rest below 1,000,000 square millimetres"
    ∷ Rounded 999999 0 999999 (bytes "1.00")
    ∷ Rounded 1000000 1 0 (bytes "1.00")
    ∷ Rounded 1000001 1 1 (bytes "1.00")
    -- ours: 1,000,000 rows of the largest area, which passes 2^64 square millimetres
    ∷ Rounded 404010000000000000000 404010000000000 0 (bytes "404010000000000.00")
    -- "For the plan D .. it prints"
    ∷ Reported d_text d_report
    -- of two areas that are rounded to 0.00 each, the sum is rounded to 0.01
    ∷ Reported small_text small_report
    -- 02, Q-6: "ground under two rows entered only once"
    ∷ Reported twice_text twice_report
    -- ours: the kind is that of the row's ground, and not of its first pair's
    ∷ Reported corner_text corner_report
    -- ours: a refusal, in bytes
    ∷ Reported [] refused_nine
    -- ours: a text in bytes, with numbers below 0 and a left that is not the bottom; a number of nine digits
    ∷ Read (bytes_with (50 ∷ 48 ∷ [])) (box 7 7 7 7 (pos 7 ∷ [])) (record { number = 0; shape = shape 2 1 0 0 })
    (neg_ℤ (pos 30) ∷ neg_ℤ (pos 4) ∷ pos 20 ∷ pos 5 ∷ pos 7 ∷ [])
    ∷ is_refused (bytes_with (49 ∷ 48 ∷ 48 ∷ 48 ∷ 48 ∷ 48 ∷ 48 ∷ 48 ∷ 48 ∷ [])) 9
    -- ours: a second PLAN line, and one that is not first, give 9; too few layers, too many rectangles and RECT before LAYER give 10
    ∷ is_refused (bytes "PLAN\t2\nPLAN\t2\nLAYER\t0\t0\nLAYER\t0\t0\n") 9
    ∷ is_refused (bytes "LAYER\t0\t0\nPLAN\t1\n") 9
    ∷ is_refused (bytes "PLAN\t2\nLAYER\t0\t0\n") 10
    ∷ is_refused (bytes "PLAN\t2\nLAYER\t0\t0\nRECT\t0\t0\t1\t1\nLAYER\t0\t0\n") 10
    ∷ is_refused (bytes "PLAN\t2\nRECT\t0\t0\t1\t1\nLAYER\t0\t0\nLAYER\t0\t0\n") 10
    -- ours, of margins: 50,000 is one, 50,001 and one past k give 17, after 2 and before 3; in a text 50,001 gives 10, and so does a negative one
    ∷ Caused (margined 50000 0 0 2 1 1 0) two_alike 0
    ∷ Caused (margined 50001 0 0 2 1 1 0) [] 17
    ∷ Caused (margined 0 0 1 2 1 1 0) two_alike 17
    ∷ Caused (margined 50001 0 0 2 513 0 0) [] 2
    ∷ Read (bytes "PLAN\t2\nLAYER\t0\t50000\nLAYER\t0\t7\n") (box 7 7 7 7 []) (record { number = 0; shape = margined 50000 7 0 2 0 0 0 }) (box 7 7 7 7 [])
    ∷ is_refused (bytes "PLAN\t2\nLAYER\t0\t50001\nLAYER\t0\t0\n") 10
    ∷ is_refused (bytes "PLAN\t2\nLAYER\t0\t-1\nLAYER\t0\t0\n") 10
    -- a margin is a number like the others: up to eight digits, none of them a leading 0
    ∷ is_refused (bytes "PLAN\t2\nLAYER\t0\t99999999\nLAYER\t0\t0\n") 10
    ∷ is_refused (bytes "PLAN\t2\nLAYER\t0\t100000000\nLAYER\t0\t0\n") 9
    ∷ is_refused (bytes "PLAN\t2\nLAYER\t0\t07\nLAYER\t0\t0\n") 9
    ∷ is_refused (bytes "PLAN\t2\nLAYER\t0\t-0\nLAYER\t0\t0\n") 9
    -- "the text take it ungrown": rectangles are read as they stand, whatever the margins of their layers, which go to the layers in their order
    ∷ Read (bytes "PLAN\t3\nLAYER\t1\t50000\nRECT\t10000000\t2\t10000000\t3\nLAYER\t0\t7\nLAYER\t1\t40\nRECT\t4\t5\t6\t7\n") (alike 2)
    (record { number = 0; shape = margined 50000 7 40 3 1 0 1 }) (box 10000000 2 10000000 3 (box 4 5 6 7 []))
    -- 02, Q-13: "Coordinates widen to 10,000,000 either way of 0"
    ∷ Caused (shape 2 1 0 0) (widest []) 0
    ∷ Caused (shape 2 1 0 0) (box 0 0 10000001 5 []) 4
    ∷ Caused (shape 2 1 0 0) (neg_ℤ (pos 10000001) ∷ pos 0 ∷ pos 0 ∷ pos 5 ∷ []) 4
    -- "A row's area, now at most 4.0401 × 10^14, stays in square millimetres"
    ∷ Listed (margined 50000 50000 0 2 1 1 0) (widest (widest [])) (row 1 (0 ∷ 0 ∷ []) 404010000000000 G ∷ []) 2
    -- "every area sum .. kept as whole square metres and a rest": a page of rows of 1,000,000 and 1,001,000 square millimetres
    ∷ Paged (shape 2 1 2 0) (box 0 0 1000 2001 (box 0 0 1000 1000 (box 0 1000 1000 2001 [])))
    (turn 9 (ten 7 7) Ended 2 4 2 1000 (0 ∷ 0 ∷ 0 ∷ 1 ∷ 7 ∷ 7 ∷ 7 ∷ 7 ∷ 7 ∷ 7 ∷ []) (counting ended_cursor 4) ∷ [])
    -- in a text 10, below the range and in the other places of a RECT line
    ∷ is_refused (bytes "PLAN\t2\nLAYER\t1\t0\nRECT\t-10000001\t0\t0\t5\nLAYER\t0\t0\n") 10
    ∷ is_refused (bytes "PLAN\t2\nLAYER\t1\t0\nRECT\t0\t-10000001\t0\t5\nLAYER\t0\t0\n") 10
    ∷ is_refused (bytes "PLAN\t2\nLAYER\t1\t0\nRECT\t0\t0\t0\t10000001\nLAYER\t0\t0\n") 10
    ∷ Read (bytes "PLAN\t2\nLAYER\t1\t0\nRECT\t-10000000\t-10000000\t10000000\t10000000\nLAYER\t0\t0\n") (alike 1)
    (record { number = 0; shape = shape 2 1 0 0 }) (widest [])
    -- 02: "old LAYER lines are no longer well formed"
    ∷ is_refused (bytes "PLAN\t2\nLAYER\t0\nLAYER\t0\n") 9
    -- a margin of 1 closes a gap of 1: the two touch
    ∷ Listed (margined 1 0 0 2 1 1 0) apart (row 2 (0 ∷ 0 ∷ []) 0 E ∷ []) 2
    -- one of 10 makes the second rectangle's left a tie with the first's, so the guard is in layer 1; the area is of the grown ones
    ∷ Listed (margined 0 10 0 2 1 1 0) (box 0 0 20 5 (box 10 0 12 5 [])) (row 1 (0 ∷ 0 ∷ []) 100 G ∷ []) 2
    -- ours: several rows of one guard in three layers, in their order
    ∷ Listed (shape 3 2 1 2) three
    (row 2 (0 ∷ 0 ∷ 0 ∷ []) 50 G ∷ row 2 (0 ∷ 0 ∷ 1 ∷ []) 30 G
    ∷ row 2 (1 ∷ 0 ∷ 0 ∷ []) 45 G ∷ row 2 (1 ∷ 0 ∷ 1 ∷ []) 27 G ∷ []) 16
    -- ours: a page of the same plan that stops with one slot filled, 15 of its 16 trials done: the ticket names the last
    ∷ Paged (shape 3 2 1 2) three
    (turn 15 (7 ∷ 7 ∷ ten 7 7) Spent 3 15 0 125 (0 ∷ 0 ∷ 0 ∷ 0 ∷ 0 ∷ 1 ∷ 1 ∷ 0 ∷ 0 ∷ 7 ∷ 7 ∷ 7 ∷ [])
    (counting (record { ended = false; layer = 2; place = 0; filled = 1; chosen = 1 ∷ 0 ∷ 0 ∷ 0 ∷ 0 ∷ []; next = 1 }) 15) ∷ [])
    -- ours, of Q-5: the fresh ticket of D again, and an Ended, after more trials; a record of no cell and of two; a ticket that check 6 refuses
    -- first; 2^57 − 1
    -- and 2^57
    ∷ Judged d d_cells (counting (first 1 0 0) 0) (0 ∷ []) 0
    ∷ Judged d d_cells (counting (first 1 0 0) 0) (2 ∷ []) 18
    ∷ Judged d d_cells (counting ended_cursor 2) (4 ∷ []) 18
    ∷ Judged d d_cells (counting (first 1 0 0) 0) [] 18
    ∷ Judged d d_cells (counting (first 1 0 0) 0) (0 ∷ 0 ∷ []) 18
    ∷ Judged d d_cells (counting (first 3 0 0) 0) (2 ∷ []) 6
    ∷ Judged d d_cells (counting (first 2 0 1) 144115188075855871) (144115188075855871 ∷ []) 0
    ∷ Judged d d_cells (counting (first 2 0 1) 144115188075855872) (144115188075855872 ∷ []) 18
    -- ours, of Q-12: D with windows of which those of the second row only touch: "the from minute included and the to minute not"; one minute more, and it is
    -- listed too
    ∷ Timed d d_cells (0 ∷ 100 ∷ 100 ∷ 10080 ∷ 50 ∷ 100 ∷ []) (shared (0 ∷ 0 ∷ []) 50 100 ∷ []) 4
    ∷ Timed d d_cells (0 ∷ 100 ∷ 100 ∷ 10080 ∷ 50 ∷ 101 ∷ []) (shared (0 ∷ 0 ∷ []) 50 100 ∷ shared (1 ∷ 0 ∷ []) 100 101 ∷ []) 4
    -- a row of three layers, five trials; where the first two layers share no minute, the trial behind the second guard's first is not made
    ∷ Timed (shape 3 1 1 1) corner (0 ∷ 30 ∷ 10 ∷ 20 ∷ 5 ∷ 10080 ∷ []) (shared (0 ∷ 0 ∷ 0 ∷ []) 10 20 ∷ []) 5
    ∷ Timed (shape 3 1 1 1) corner (0 ∷ 10 ∷ 10 ∷ 20 ∷ 5 ∷ 10080 ∷ []) [] 4
    -- "for other cells 0 and 0": a row of D whose windows only touch, places that name no row, and cells that are no places of D
    ∷ Asked d d_cells (0 ∷ 100 ∷ 100 ∷ 10080 ∷ 50 ∷ 100 ∷ []) (1 ∷ 0 ∷ []) (Ok None) 0 0 0
    ∷ Asked d d_cells (0 ∷ 100 ∷ 100 ∷ 10080 ∷ 50 ∷ 100 ∷ []) (2 ∷ 0 ∷ []) (Ok None) 0 0 0
    ∷ Asked d d_cells (0 ∷ 100 ∷ 100 ∷ 10080 ∷ 50 ∷ 100 ∷ []) (0 ∷ []) (Ok None) 0 0 0
    -- "Given such a row, one call returns the first shared minute and the first after them". 01: "A refusal returns its number and 0 for all else"
    ∷ Asked d d_cells (0 ∷ 100 ∷ 100 ∷ 10080 ∷ 50 ∷ 100 ∷ []) (0 ∷ 0 ∷ []) (Ok (Some (record { from = 50; to = 100 }))) 0 50 100
    ∷ Asked d d_cells (0 ∷ 100 ∷ 100 ∷ 10080 ∷ 50 ∷ []) (0 ∷ 0 ∷ []) (Err 24) 24 0 0
    -- "the buffer not 2n cells or a window not as stated, 24, after 4"
    ∷ Windowed d d_cells (0 ∷ 100 ∷ 100 ∷ 10080 ∷ 50 ∷ []) 24
    ∷ Windowed d d_cells (0 ∷ 100 ∷ 100 ∷ 10081 ∷ 50 ∷ 100 ∷ []) 24
    ∷ Windowed d d_cells (0 ∷ 100 ∷ 100 ∷ 100 ∷ 50 ∷ 100 ∷ []) 24
    ∷ Windowed (shape 2 1 0 0) (box 5 0 0 5 []) [] 4
    -- "For each row it prints ROW, the guard's layer, the k places, the area in square millimetres.", and 02: "the kind of the row's common ground"
    ∷ RowPrinted four four_cells (2 ∷ 10 ∷ 1 ∷ 0 ∷ []) four_line
    -- "A refusal prints REFUSED and its number alone."
    ∷ RefusalPrinted 10 refused_ten
    ∷ RefusalPrinted 13 refused_thirteen
    -- "the one text of a plan": "One PLAN line comes first; then for each layer a LAYER line and its RECT lines"; it is read as that plan
    ∷ Written d d_cells d_text
    ∷ Written six six_cells six_text
    ∷ Read six_text (alike 7) (record { number = 0; shape = six }) six_cells
    -- "One call makes it.", the order: "A refusal returns its number", and else the number is 0
    ∷ Ordered (Ok tt) Err
    -- "returns the guard's layer and the area of the row in them"
    ∷ Measured d d_cells (0 ∷ 0 ∷ []) (Ok (Some (record { layer = 2; area = 250000 }))) 0 2 250000
    ∷ Measured d d_cells (1 ∷ 0 ∷ []) (Ok (Some (record { layer = 1; area = 0 }))) 0 1 0
    -- "Where they are not k cells or name no row of J, it returns layer 0 and area 0."
    ∷ Measured d d_cells (0 ∷ []) (Ok None) 0 0 0
    ∷ Measured d d_cells (0 ∷ 0 ∷ 0 ∷ []) (Ok None) 0 0 0
    ∷ Measured d d_cells (2 ∷ 0 ∷ []) (Ok None) 0 0 0
    ∷ Measured d d_cells (0 ∷ 1 ∷ []) (Ok None) 0 0 0
    ∷ Measured (shape 2 1 1 0) apart (0 ∷ 0 ∷ []) (Ok None) 0 0 0
    -- "A refusal returns its number and 0 for all else"
    ∷ Measured (shape 2 1 0 0) (box 5 0 0 5 []) (0 ∷ 0 ∷ []) (Err 4) 4 0 0
    -- 02, Q-7: "hand back their common rectangle and its kind: G with both sides above 0, E with exactly one side 0, P with both 0"
    ∷ Grounded d d_cells (0 ∷ 0 ∷ []) (Ok (Some (record { rect = rect 500 500 1000 1000; kind = Ground }))) 0 G (rect 500 500 1000 1000)
    ∷ Grounded d d_cells (1 ∷ 0 ∷ []) (Ok (Some (record { rect = rect 1000 500 1500 500; kind = Edge }))) 0 E (rect 1000 500 1500 500)
    ∷ Grounded (shape 3 1 1 1) corner (0 ∷ 0 ∷ 0 ∷ []) (Ok (Some (record { rect = rect 10 10 10 10; kind = Point }))) 0 P (rect 10 10 10 10)
    -- cells that name no row for the row call name none for this one, and it refuses the same plan
    ∷ Grounded d d_cells (0 ∷ 0 ∷ 0 ∷ []) (Ok None) 0 0 (rect 0 0 0 0)
    ∷ Grounded d d_cells (2 ∷ 0 ∷ []) (Ok None) 0 0 (rect 0 0 0 0)
    ∷ Grounded (shape 2 1 1 0) apart (0 ∷ 0 ∷ []) (Ok None) 0 0 (rect 0 0 0 0)
    ∷ Grounded (shape 2 1 0 0) (box 5 0 0 5 []) (0 ∷ 0 ∷ []) (Err 4) 4 0 (rect 0 0 0 0)
    ∷ []

abbrev pub GroundHolds : Type 0
GroundHolds = All Holds cases
