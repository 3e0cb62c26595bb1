-- `runner::grown::run_over`: a refusal by 5, or the run and the ground of its rows.
use borrow.Author.Rules.{rules}
use native.Mathlib.Omega.{arith}
use mathlib.Core.Path.{refl}
use Rattle.plan.specs.Plan.{Typed}
use Rattle.plan.proofs.Causes.{passed}
use Rattle.slots.proofs.Frames.{framing-over}
use Rattle.pager.proofs.Calls.{ordered, timing, misordered, admitted}
use Rattle.runner.proofs.Calls.{run_refused, run-listed, run_lent, run-made}
use Rattle.runner.proofs.grown.run_over.Goals as goal

pub returns-then-not-is_order : goal.returns-then-not-is_order
returns-then-not-is_order c =
    λ cells h is.
    run_refused c.args.timed c.args.shape cells c.args.hours.now c.args.order.now c.args.table.now c.args.work.now 5 (misordered c.args.timed c.args.shape c.args.hours.now c.args.order.now c.requires.hourly.0 c.args.grown.now c.is_order.ensures c.if-not-is_order.true cells h is) (λ e. omega arith)

pub frame_of-frame-requires : goal.frame_of-frame-requires
frame_of-frame-requires c =
    let typed : Typed c.args.shape = record { sizes = search rules; margins = search rules } in
    (omega (arith, typed.sizes, c.requires.k_in_bounds.0), c.requires.k_in_bounds.1.small)

pub run_from-requires : goal.run_from-requires
run_from-requires c = (ordered c.args.order.now c.args.grown.now c.is_order.ensures c.if-not-is_order.false, timing c.args.timed c.args.shape c.frame_of-frame.result c.args.hours.now c.frame_of-frame.ensures c.requires.hourly.1)

pub invariant_of-walk : goal.invariant_of-walk
invariant_of-walk c =
    let typed : Typed c.args.shape = record { sizes = search rules; margins = search rules } in
    record { framing = framing-over c.args.shape c.args.grown.now c.frame_of-frame.result c.args.timed typed c.requires.k_in_bounds c.frame_of-frame.ensures }

pub returns-in_err-listing : goal.returns-in_err-listing
returns-in_err-listing c =
    λ cells h is.
    rw (passed _ _ c.from_residual.ensures.1)
    (run-made c.args.timed c.args.shape cells c.args.hours.now c.args.order.now c.args.table.now c.args.work.now c.args.grown.now c.frame_of-frame.result c.frame_of-frame.ensures c.requires.k_in_bounds
    (admitted c.args.timed c.args.shape c.args.hours.now c.args.order.now c.requires.hourly.0 c.args.grown.now c.is_order.ensures c.if-not-is_order.false c.frame_of-frame.result c.frame_of-frame.ensures cells h is) _ _ c.in_err-listing.ensures _ refl _
    refl (λ n e. refl))

pub with_ground-requires : goal.with_ground-requires
with_ground-requires c =
    let typed : Typed c.args.shape = record { sizes = search rules; margins = search rules } in
    record {
      listed = (run-listed c.args.timed c.args.shape c.args.grown.now c.args.hours.now c.frame_of-frame.result c.frame_of-frame.ensures c.requires.k_in_bounds c.args.table.now _ _ _ c.in_ok-listing.ensures, run_lent c.args.timed c.args.shape c.args.grown.now c.args.hours.now c.frame_of-frame.result c.frame_of-frame.ensures c.requires.k_in_bounds c.args.table.now _ _ _ c.in_ok-listing.ensures);
      swept = record {
        framing = framing-over c.args.shape c.args.grown.now c.frame_of-frame.result c.args.timed typed c.requires.k_in_bounds c.frame_of-frame.ensures;
        same = c.frame_of-frame.ensures.sizes;
        ordered = ordered c.args.order.now c.args.grown.now c.is_order.ensures c.if-not-is_order.false;
      };
    }

pub returns : goal.returns
returns c =
    λ cells h is.
    run-made c.args.timed c.args.shape cells c.args.hours.now c.args.order.now c.args.table.now c.args.work.now c.args.grown.now c.frame_of-frame.result c.frame_of-frame.ensures c.requires.k_in_bounds
    (admitted c.args.timed c.args.shape c.args.hours.now c.args.order.now c.requires.hourly.0 c.args.grown.now c.is_order.ensures c.if-not-is_order.false c.frame_of-frame.result c.frame_of-frame.ensures cells h is) _ _ c.in_ok-listing.ensures _ c.with_ground.ensures _
    c.with_ground.auto.work (λ n e. cc)
