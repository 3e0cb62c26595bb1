-- `rounds_code::round_over`: a refusal by 5, or the round on the plan.
use borrow.Author.Rules.{rules}
use mathlib.Core.Bool.{false}
use mathlib.Core.List.{[]}
use native.Mathlib.Omega.{arith}
use Rattle.plan.specs.Plan.{Typed}
use Rattle.slots.proofs.Frames.{framing-over}
use Rattle.pager.proofs.Calls.{ordered, no-hours, misordered, admitted}
use Rattle.rounds_code.specs.Parts.{request}
use Rattle.rounds_code.proofs.Answers.{round-refused, by_order, opens}
use Rattle.rounds_code.proofs.round_over.Goals as goal

pub returns-then-not-is_order : goal.returns-then-not-is_order
returns-then-not-is_order c =
    λ cells h is.
    let q = (request c.args.shape cells c.args.order.now c.args.m c.args.first c.args.budget c.args.tickets c.args.counters.now c.args.table.now) in
    round-refused q 5 (by_order q 5 (misordered false c.args.shape [] c.args.order.now (no-hours c.args.shape []) c.args.grown.now c.is_order.ensures c.if-not-is_order.true cells h is) (λ e. omega arith)) (λ e. omega arith) _ c.refused_round.ensures

pub frame_of-frame-requires : goal.frame_of-frame-requires
frame_of-frame-requires c =
    let typed : Typed c.args.shape = record { sizes = search rules; margins = search rules } in
    (omega (arith, typed.sizes, c.requires.0), c.requires.1.small)

pub round_on-requires : goal.round_on-requires
round_on-requires c =
    (ordered c.args.order.now c.args.grown.now c.is_order.ensures c.if-not-is_order.false, c.frame_of-frame.ensures.is_timed)

pub invariant_of-walk : goal.invariant_of-walk
invariant_of-walk c =
    let typed : Typed c.args.shape = record { sizes = search rules; margins = search rules } in
    record { framing = framing-over c.args.shape c.args.grown.now c.frame_of-frame.result false typed c.requires c.frame_of-frame.ensures }

pub returns : goal.returns
returns c =
    λ cells h is.
    c.round_on.ensures c.args.shape cells
    (opens c.args.shape cells c.args.order.now c.args.grown.now c.frame_of-frame.result
    (admitted false c.args.shape [] c.args.order.now (no-hours c.args.shape []) c.args.grown.now c.is_order.ensures c.if-not-is_order.false c.frame_of-frame.result c.frame_of-frame.ensures cells h is) c.frame_of-frame.ensures)
