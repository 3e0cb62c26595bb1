-- `crossings_code::class_of`: a plan that the checks refuse, and one that they let through.
use borrow.Author.Rules.{rules}
use mathlib.Core.Path.{sym, ap}
use native.Mathlib.Omega.{arith}
use lib.ListN.{length}
use lib.Seq.{length-take-le}
use Rattle.plan.specs.Plan.{Sound, grown}
use Rattle.plan.proofs.Growing.{framed}
use Rattle.plan.proofs.Causes.{number-above, passed}
use Rattle.crossings.specs.ClassCall.{class_values}
use Rattle.crossings.proofs.Answers.{cause-sound, cause-three, class-refused, class-accepted}
use Rattle.crossings_code.proofs.class_of.Goals as goal

pub returns-in_err-check_segments : goal.returns-in_err-check_segments
returns-in_err-check_segments c =
    let told = class-refused c.args.shape c.args.cells.now c.args.places.now _ c.in_err-check_segments.ensures (number-above _) in
    let p = passed _ _ c.from_residual.ensures.1 in
    record { answer = rw p told; values = rw p (ap class_values told) }

pub of-requires : goal.of-requires
of-requires c = cause-sound _ _ (record { sizes = search rules; margins = search rules }) (sym c.in_ok-check_segments.ensures)

pub class_told-requires : goal.class_told-requires
class_told-requires c =
    let sound : Sound c.args.shape c.args.cells.now = cause-sound _ _ (record { sizes = search rules; margins = search rules }) (sym c.in_ok-check_segments.ensures) in
    omega (arith, ap length c.of.ensures.0, length-take-le c.args.shape.k c.args.shape.sizes (framed _ _ sound).0, cause-three _ _ (sym c.in_ok-check_segments.ensures))

pub returns : goal.returns
unfolding grown
returns c =
    let d = c.of.ensures in
    let told = class-accepted c.args.shape c.args.cells.now c.args.places.now _ (sym c.in_ok-check_segments.ensures) (rw (d.0, d.1, d.2) at c.class_told.ensures) in
    record { answer = told; values = ap class_values told }
