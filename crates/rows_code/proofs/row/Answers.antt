-- `rows_code::row`: the guard's layer and the area of what the cells name.
use borrow.Author.Rules.{rules}
use mathlib.Core.Path.{sym, ap, ◌∙◌}
use Rattle.std.specs.Prelude.{Ok}
use native.Mathlib.Omega.{arith}
use Rattle.plan.specs.Plan.{Typed}
use Rattle.plan.proofs.Causes.{passed}
use Rattle.rows.specs.RowCall.{row_values}
use Rattle.rows.proofs.Answers.{row_is, row-some, named_small}
use Rattle.rows_code.proofs.row.Goals as goal

pub overflow_add-result : goal.overflow_add-result
overflow_add-result c =
    let typed : Typed c.args.shape = record { sizes = search rules; margins = search rules } in
    omega (arith, named_small c.args.shape c.args.cells.now c.args.places.now _ typed (sym (ap Ok c.in-Some.is) ∙ c.in_ok-plan_named.ensures))

pub returns-in_err-plan_named : goal.returns-in_err-plan_named
returns-in_err-plan_named c =
    let told = row_is _ _ _ _ c.in_err-plan_named.ensures in
    let p = passed _ _ c.from_residual.ensures.1 in
    record { answer = rw p told; values = rw p (ap row_values told) }

pub returns-in-None : goal.returns-in-None
returns-in-None c = let told = row_is _ _ _ _ (sym (ap Ok c.in-None.is) ∙ c.in_ok-plan_named.ensures) in record { answer = told; values = ap row_values told }

pub returns-in-Some : goal.returns-in-Some
returns-in-Some c = let told = row-some _ _ _ _ (sym (ap Ok c.in-Some.is) ∙ c.in_ok-plan_named.ensures) _ c.area.ensures in record { answer = told; values = ap row_values told }
