-- `rows_code::row_common`: the common rectangle and the kind of what the cells name.
use mathlib.Core.Path.{sym, ap, ◌∙◌}
use Rattle.std.specs.Prelude.{Ok}
use Rattle.plan.proofs.Causes.{passed}
use Rattle.rows.specs.RowCall.{common_values}
use Rattle.rows.proofs.Answers.{common-is}
use Rattle.rows_code.proofs.row_common.Goals as goal

pub returns-in_err-plan_named : goal.returns-in_err-plan_named
returns-in_err-plan_named c =
    let told = common-is _ _ _ _ c.in_err-plan_named.ensures in
    let p = passed _ _ c.from_residual.ensures.1 in
    record { answer = rw p told; values = rw p (ap common_values told) }

pub returns-in-None : goal.returns-in-None
returns-in-None c = let told = common-is _ _ _ _ (sym (ap Ok c.in-None.is) ∙ c.in_ok-plan_named.ensures) in record { answer = told; values = ap common_values told }

pub returns-in-Some : goal.returns-in-Some
returns-in-Some c = let told = common-is _ _ _ _ (sym (ap Ok c.in-Some.is) ∙ c.in_ok-plan_named.ensures) in record { answer = told; values = ap common_values told }
