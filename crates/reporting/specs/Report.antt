-- What the report program prints for a text (01, "The report").
use Rattle.std.specs.Prelude.{List, ◌++◌, ℕ, leb, ℤ, length, drop, replicate}
use Rattle.std.proofs.Math.Option.{none}
use Rattle.plan.specs.declared.Shape.{Shape}
use Rattle.plan.specs.Causes.{unless, ◌or_else◌, on_cause}
use Rattle.plan.specs.Limits.{most_cells}
use Rattle.plan.specs.Plan.{sizes_of, layers, grown}
use Rattle.sweep.specs.Sweep.{sweep_order}
use Rattle.join.specs.Table.{plan_table}
use Rattle.ground.specs.Union.{union_of, grounds}
use Rattle.totals.specs.Totals.{total_of}
use Rattle.walk.specs.Walk.{walk_of}
use Rattle.paging.specs.Calls.{run_cause}
use Rattle.text.specs.Reader.{read_cause, text_shape, text_cells}
use Rattle.printing.specs.Lines.{row_lines, total_line, refused_line}

-- 01: "makes a whole run into 12,288 cells"
abbrev pub run_table_cells : ℕ
run_table_cells = 12288

-- how many cells its work buffer has: enough for any table of that many cells
abbrev pub run_work_cells : ℕ
run_work_cells = 12288

-- the table before the run
unfoldable pub empty_table : List ℕ
empty_table = replicate run_table_cells 0

-- the lines of all rows of a plan's table, and the total: rows, the walk's length, and 02, Q-6: "The TOTAL line's square metres become those of the union of
-- all rows' common ground"
abbrev pub table_report : Shape → List ℤ → List ℕ
table_report s cells =
    let table = plan_table s cells in
    let walk = walk_of (sizes_of s) (grown s cells) in
    row_lines (layers s cells) table ++ total_line (length table) (length walk) (total_of (union_of (grounds (layers s cells) table)))

-- 13, "input above 65,536 bytes", comes "before all others"; then the reader's causes, where it is lent cells for any plan; then those of the whole run
unfoldable pub report_cause : List ℕ → ℕ
report_cause t =
    let s = text_shape t in
    let cells = text_cells t in
    unless (leb (length t) 65536) 13 or_else read_cause most_cells t or_else run_cause none s cells (sweep_order (grown s cells)) empty_table run_work_cells

-- what is printed for a text
unfoldable pub report_of : List ℕ → List ℕ
report_of t = on_cause (report_cause t) (table_report (text_shape t) (text_cells t)) refused_line

-- ---- the buffer that it is put into before it is printed
-- how long it is: room for any report (specs/Theorems.antt, `fits`)
abbrev pub room_for_any : ℕ
room_for_any = 655360

-- the buffer afterwards: the report stands at its start, the rest is kept
abbrev pub out_after : List ℕ → List ℕ → List ℕ
out_after t out = report_of t ++ drop (length (report_of t)) out
