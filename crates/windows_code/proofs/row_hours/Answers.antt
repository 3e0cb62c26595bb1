-- `windows_code::row_hours`: a refusal, and what the row call tells of a plan that is let through.
use borrow.Author.Rules.{rules}
use mathlib.Core.Path.{◌≡◌, sym, ap, ◌∙◌}
use mathlib.Core.Option.{some}
use mathlib.Core.Bool.{true, false}
use Rattle.std.specs.Prelude.{Ok}
use Rattle.plan.specs.Plan.{Typed}
use Rattle.plan.proofs.Causes.{number-above, passed}
use Rattle.windows.specs.HoursCall.{hours_cause, hours_values}
use Rattle.windows.proofs.Answers.{refused-is, never-refused, no_row, row_reads, row_told}
use Rattle.windows_code.proofs.row_hours.Goals as goal

pub returns-in_err-check_hours : goal.returns-in_err-check_hours
returns-in_err-check_hours c =
    let told = refused-is _ _ _ _ _ c.in_err-check_hours.ensures (number-above _) in
    let p = passed _ _ c.from_residual.ensures.1 in
    record { answer = rw p told; values = rw p (ap hours_values told) }

pub returns-in_err-row : goal.returns-in_err-row
returns-in_err-row c = absurd (never-refused _ _ _ _ (sym c.in_ok-check_hours.ensures) _ c.in_err-row.ensures.answer)

pub returns-in_default : goal.returns-in_default
returns-in_default c =
    let told = no_row _ _ _ _ (sym c.in_ok-check_hours.ensures) (sym (ap Ok c.in_default.is) ∙ c.in_ok-row.ensures.answer) in
    record { answer = told; values = ap hours_values told }

pub row_minutes-w-requires : goal.row_minutes-w-requires
row_minutes-w-requires c =
    let typed : Typed c.args.shape = record { sizes = search rules; margins = search rules } in
    let reads = row_reads _ _ _ _ (sym c.in_ok-check_hours.ensures) _ (sym (ap Ok c.in-Some.is) ∙ c.in_ok-row.ensures.answer) typed in
    record { le_k = reads.0; row_value = reads.1.0; sizes_in_bounds = reads.1.1 }

pub returns-then-is_open : goal.returns-then-is_open
returns-then-is_open c =
    let told = row_told _ _ _ _ (sym c.in_ok-check_hours.ensures) _ (sym (ap Ok c.in-Some.is) ∙ c.in_ok-row.ensures.answer) _ c.row_minutes-w.ensures true (sym c.if-is_open.true ∙ c.is_open.ensures) in
    record { answer = told; values = ap hours_values told }

pub returns-else-is_open : goal.returns-else-is_open
returns-else-is_open c =
    let told = row_told _ _ _ _ (sym c.in_ok-check_hours.ensures) _ (sym (ap Ok c.in-Some.is) ∙ c.in_ok-row.ensures.answer) _ c.row_minutes-w.ensures false (sym c.if-is_open.false ∙ c.is_open.ensures) in
    record { answer = told; values = ap hours_values told }
