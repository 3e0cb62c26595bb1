-- `pairs_code::apart_pair`: a plan that the checks refuse, and one that they let through.
use borrow.Author.Rules.{rules}
use mathlib.Core.Path.{sym, ap}
use Rattle.plan.specs.Plan.{Sound, grown}
use Rattle.plan.proofs.Causes.{number-above, passed}
use Rattle.pairs.specs.PairCall.{pair_values}
use Rattle.pairs.proofs.Scanning.{pair-refused, pair-accepted}
use Rattle.pairs_code.proofs.apart_pair.Goals as goal

pub returns-in_err-check_plan : goal.returns-in_err-check_plan
returns-in_err-check_plan c =
    let told = pair-refused c.args.shape c.args.cells.now c.args.places.now _ c.in_err-check_plan.ensures (number-above _) in
    let p = passed _ _ c.from_residual.ensures.1 in
    record { answer = rw p told; values = rw p (ap pair_values told) }

pub of-requires : goal.of-requires
of-requires c = record { typed = record { sizes = search rules; margins = search rules }; passed = sym c.in_ok-check_plan.ensures }

pub returns : goal.returns
unfolding grown
returns c =
    let sound : Sound c.args.shape c.args.cells.now = record { typed = record { sizes = search rules; margins = search rules }; passed = sym c.in_ok-check_plan.ensures } in
    let d = c.of.ensures in
    let told = pair-accepted c.args.shape c.args.cells.now c.args.places.now _ sound (rw (d.0, d.1, d.2) at c.pair_in.ensures) in
    record { answer = told; values = ap pair_values told }
