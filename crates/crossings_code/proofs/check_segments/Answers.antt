-- `crossings_code::check_segments`: the plan's causes, then 15 and 16.
use mathlib.Core.Path.{◌≡◌, sym, ◌∙◌}
use mathlib.Core.Bool.{true, false}
use Rattle.plan.specs.Plan.{plan_cause, Typed, Sound}
use Prim.Native.Nat.{◌≤◌}
use native.Mathlib.Omega.{arith}
use Rattle.plan.proofs.Causes.{number-above, passed-same}
use Rattle.plan.proofs.Plan.{checked}
use Rattle.plan.proofs.Growing.{drawn-framed}
use Rattle.crossings.proofs.Answers.{cause-plan, cause-layers, cause-margins, cause-segments}
use borrow.Author.Rules.{rules}
use Rattle.crossings_code.proofs.check_segments.Goals as goal

pub returns-in_err-check_plan : goal.returns-in_err-check_plan
returns-in_err-check_plan c = passed-same _ _ c.from_residual.ensures.1 _ (cause-plan _ _ _ c.in_err-check_plan.ensures (number-above _))

pub returns-then-shape-lt3 : goal.returns-then-shape-lt3
returns-then-shape-lt3 c =
    let sound : plan_cause c.args.shape c.args.cells.now ≡ 0 = sym c.in_ok-check_plan.ensures in
    cause-layers _ _ sound c.if-shape-lt3.true

pub is_unwidened-requires : goal.is_unwidened-requires
is_unwidened-requires c =
    let typed : Typed c.args.shape = record { sizes = search rules; margins = search rules } in
    let sound : plan_cause c.args.shape c.args.cells.now ≡ 0 = sym c.in_ok-check_plan.ensures in
    let whole : Sound c.args.shape c.args.cells.now = record { typed = typed; passed = sound } in
    let three : 3 ≤ c.args.shape.k = c.if-shape-lt3.false in
    let w = whole in
    (three, omega (arith, w.typed.margins, (checked _ _ w).high))

pub returns-then-not-is_unwidened : goal.returns-then-not-is_unwidened
returns-then-not-is_unwidened c =
    let sound : plan_cause c.args.shape c.args.cells.now ≡ 0 = sym c.in_ok-check_plan.ensures in
    let three : 3 ≤ c.args.shape.k = c.if-shape-lt3.false in
    cause-margins _ _ sound three (sym c.if-not-is_unwidened.true ∙ c.is_unwidened.ensures)

pub is_segmented-requires : goal.is_segmented-requires
is_segmented-requires c =
    let typed : Typed c.args.shape = record { sizes = search rules; margins = search rules } in
    let sound : plan_cause c.args.shape c.args.cells.now ≡ 0 = sym c.in_ok-check_plan.ensures in
    let whole : Sound c.args.shape c.args.cells.now = record { typed = typed; passed = sound } in
    (drawn-framed _ _ whole).1

pub returns : goal.returns
returns c =
    let sound : plan_cause c.args.shape c.args.cells.now ≡ 0 = sym c.in_ok-check_plan.ensures in
    let three : 3 ≤ c.args.shape.k = c.if-shape-lt3.false in
    cause-segments _ _ sound three (sym c.if-not-is_unwidened.false ∙ c.is_unwidened.ensures) true (sym c.if-not-is_segmented.false ∙ c.is_segmented.ensures)

pub returns-then-not-is_segmented : goal.returns-then-not-is_segmented
returns-then-not-is_segmented c =
    let sound : plan_cause c.args.shape c.args.cells.now ≡ 0 = sym c.in_ok-check_plan.ensures in
    let three : 3 ≤ c.args.shape.k = c.if-shape-lt3.false in
    cause-segments _ _ sound three (sym c.if-not-is_unwidened.false ∙ c.is_unwidened.ensures) false (sym c.if-not-is_segmented.true ∙ c.is_segmented.ensures)

pub shared_ref_as_front-is_segmented : goal.shared_ref_as_front-is_segmented
shared_ref_as_front-is_segmented c =
    let typed : Typed c.args.shape = record { sizes = search rules; margins = search rules } in
    let whole : Sound c.args.shape c.args.cells.now = record { typed = typed; passed = sym c.in_ok-check_plan.ensures } in
    omega (arith, typed.sizes, (drawn-framed _ _ whole).0)
