-- `rows_code::plan_named`: a plan that the checks refuse, and one that they let through.
use borrow.Author.Rules.{rules}
use mathlib.Core.Path.{sym}
use Rattle.plan.specs.Plan.{Sound, grown}
use Rattle.plan.proofs.Causes.{number-above, passed}
use Rattle.rows.proofs.Answers.{named-is, named-refused, named-accepted}
use Rattle.rows_code.proofs.plan_named.Goals as goal

pub returns-in_err-check_plan : goal.returns-in_err-check_plan
returns-in_err-check_plan c =
    rw (passed _ _ c.from_residual.ensures.1) (named-refused c.args.shape c.args.cells.now c.args.places.now _ c.in_err-check_plan.ensures (number-above _))

pub of-requires : goal.of-requires
of-requires c = record { typed = record { sizes = search rules; margins = search rules }; passed = sym c.in_ok-check_plan.ensures }

pub returns : goal.returns
unfolding grown
returns c =
    let sound : Sound c.args.shape c.args.cells.now = record { typed = record { sizes = search rules; margins = search rules }; passed = sym c.in_ok-check_plan.ensures } in
    let d = c.of.ensures in
    named-accepted c.args.shape c.args.cells.now c.args.places.now _ sound (named-is _ _ _ (rw (d.0, d.1, d.2) at c.ground_in.ensures))
