-- `pager::grown::first_over`: a refusal by 5, or the cursor of the whole walk.
use borrow.Author.Rules.{rules}
use mathlib.Core.Bool.{false}
use mathlib.Core.List.{[], ◌∷◌}
use native.Mathlib.Omega.{arith}
use Rattle.plan.specs.Plan.{Typed}
use Rattle.slots.proofs.Frames.{framing-over}
use Rattle.pager.proofs.Calls.{no-hours, ordered, misordered, admitted, first-refused, first_made}
use Rattle.pager.proofs.grown.first_over.Goals as goal

pub returns-then-not-is_order : goal.returns-then-not-is_order
returns-then-not-is_order c =
    λ cells h is.
    first-refused c.args.shape cells c.args.order.now 5 (misordered false c.args.shape [] c.args.order.now (no-hours c.args.shape []) c.args.grown.now c.is_order.ensures c.if-not-is_order.true cells h is) (λ e. omega arith)

pub frame_of-frame-requires : goal.frame_of-frame-requires
frame_of-frame-requires c =
    let typed : Typed c.args.shape = record { sizes = search rules; margins = search rules } in
    (omega (arith, typed.sizes, c.requires.0), c.requires.1.small)

pub first_cursor-requires : goal.first_cursor-requires
first_cursor-requires c = ordered c.args.order.now c.args.grown.now c.is_order.ensures c.if-not-is_order.false

pub invariant_of-walk : goal.invariant_of-walk
invariant_of-walk c =
    let typed : Typed c.args.shape = record { sizes = search rules; margins = search rules } in
    record { framing = framing-over c.args.shape c.args.grown.now c.frame_of-frame.result false typed c.requires c.frame_of-frame.ensures }

pub returns : goal.returns
returns c =
    λ cells h is.
    first_made c.args.shape cells c.args.order.now c.args.grown.now (0 ∷ []) c.frame_of-frame.result
    (admitted false c.args.shape (0 ∷ []) c.args.order.now (no-hours c.args.shape (0 ∷ [])) c.args.grown.now c.is_order.ensures c.if-not-is_order.false c.frame_of-frame.result c.frame_of-frame.ensures cells h is) _ c.first_cursor.ensures
