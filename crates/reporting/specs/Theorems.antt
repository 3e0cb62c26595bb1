-- Theorem: what the report program prints, for every text. Proved in proofs/Theorems.antt.
use Rattle.std.specs.Prelude.{◌≡◌, List, ◌++◌, ℕ, suc, ◌/◌, ◌≤◌, ℤ, length, take, drop}
use Rattle.totals.specs.Totals.{total_of}
use Rattle.plan.specs.declared.Shape.{Shape}
use Rattle.plan.specs.Causes.{Check, Passed}
use Rattle.plan.specs.Plan.{sizes_of, grown, layers, Sound}
use Rattle.ground.specs.Union.{union_of, grounds}
use Rattle.join.specs.Table.{plan_table}
use Rattle.walk.specs.Walk.{walk_of}
use Rattle.text.specs.Plans.{text_of}
use Rattle.text.specs.Theorems.{Formed, PlanText}
use Rattle.printing.specs.Lines.{row_lines, total_line, refused_line}
use Rattle.reporting.specs.Report.{report_cause, report_of, out_after}

-- the plan's table has no more rows than 12,288 cells take
abbrev pub TableFits : {t : List ℕ} → PlanText t → Type 0
TableFits p = length (plan_table p.shape p.plan) ≤ 12288 / p.shape.k

pub record Reports : Type 0 where
  -- 13, "input above 65,536 bytes", whatever they are; 9; 10; 7
  pub causes : (t : List ℕ)
      → Check 13 (length t ≤ 65536) (Check 9 (Formed t) (Check 10 (PlanText t) (Check 7 ((p : PlanText t) → TableFits p) Passed))) (report_cause t)
  -- "A refusal prints REFUSED and its number alone."
  pub refused : (t : List ℕ) (n : ℕ) → report_cause t ≡ suc n → report_of t ≡ refused_line (suc n)
  -- else each row of the plan's table, in its order, and the total: rows, the walk's length, the union of the rows' common ground (02, Q-6)
  pub printed : (s : Shape) (plan : List ℤ) → Sound s plan → report_cause (text_of s plan) ≡ 0
      → let table = plan_table s plan in let walk = walk_of (sizes_of s) (grown s plan) in
      report_of (text_of s plan) ≡ row_lines (layers s plan) table ++ total_line (length table) (length walk) (total_of (union_of (grounds (layers s plan) table)))
  -- the program's buffer has room for it
  pub fits : (t : List ℕ) → length (report_of t) ≤ 655360
  -- it stands at the start of the buffer, and the rest is as it was
  pub put : (t out : List ℕ) → let n = length (report_of t) in (take n (out_after t out) ≡ report_of t) × (drop n (out_after t out) ≡ drop n out)
