-- `nearest_code::nearest`: a refusal, and the answer for a plan and a box that the checks let through.
use borrow.Author.Rules.{rules}
use mathlib.Core.Path.{◌≡◌, sym, ap, ◌∙◌}
use mathlib.Core.List.{List}
use native.Mathlib.Omega.{arith}
use lib.IntN.{ℤ}
use Rattle.geometry.specs.declared.Rect.{Rect}
use Rattle.plan.specs.declared.Shape.{Shape}
use Rattle.plan.specs.Plan.{Sound, layers_of, sizes_of}
use Rattle.plan.proofs.Growing.{drawn-framed}
use Rattle.plan_code.specs.Copies.{GrownCells}
use Rattle.plan_code.proofs.Drawn.{drawn}
use Rattle.std.specs.Prelude.{Option, Ok}
use Rattle.plan.proofs.Causes.{number-above, passed}
use Rattle.nearest.specs.declared.Near.{Near}
use Rattle.nearest.specs.Nearest.{nearest_of, nearest_cause, nearest_call}
use Rattle.nearest.proofs.Answers.{call-refused, call-accepted, box-passed, plan-passed}
use Rattle.nearest_code.proofs.nearest.Goals as goal

-- the answer over the grown cells is the call's
over : (s : Shape) (cells here : List ℤ) (around : Rect) (r : List (Option Near)) → nearest_cause s cells around ≡ 0 → GrownCells s cells here
    → r ≡ nearest_of (layers_of (sizes_of s) here) around → Ok r ≡ nearest_call s cells around
over s cells here around r h g e = call-accepted s cells around r h (e ∙ ap (λ (l : List ℤ). nearest_of (layers_of (sizes_of s) l) around) g.is)

pub returns-in_err-check_box : goal.returns-in_err-check_box
returns-in_err-check_box c = rw (passed _ _ c.from_residual.ensures.1) (call-refused _ _ _ _ c.in_err-check_box.ensures (number-above _))

pub shared_ref_as_front-sizes : goal.shared_ref_as_front-sizes
shared_ref_as_front-sizes c =
    let passed : nearest_cause c.args.shape c.args.cells.now c.args.around ≡ 0 = sym c.in_ok-check_box.ensures in
    let sound : Sound c.args.shape c.args.cells.now = record { typed = record { sizes = search rules; margins = search rules }; passed = plan-passed _ _ _ passed } in
    omega (arith, sound.typed.sizes, (drawn-framed _ _ sound).0)

pub nearest_told-requires : goal.nearest_told-requires
nearest_told-requires c =
    let passed : nearest_cause c.args.shape c.args.cells.now c.args.around ≡ 0 = sym c.in_ok-check_box.ensures in
    let sound : Sound c.args.shape c.args.cells.now = record { typed = record { sizes = search rules; margins = search rules }; passed = plan-passed _ _ _ passed } in
    record {
      framed = (drawn-framed _ _ sound).1;
      around_value = box-passed _ _ _ passed;
    }

pub returns-then-is_drawn : goal.returns-then-is_drawn
returns-then-is_drawn c =
    let passed : nearest_cause c.args.shape c.args.cells.now c.args.around ≡ 0 = sym c.in_ok-check_box.ensures in
    let sound : Sound c.args.shape c.args.cells.now = record { typed = record { sizes = search rules; margins = search rules }; passed = plan-passed _ _ _ passed } in
    over _ _ _ _ _ passed (drawn _ _ _ sound c.is_drawn.ensures c.if-is_drawn.true) c.nearest_told.ensures

pub grown_cells-grown-requires : goal.grown_cells-grown-requires
grown_cells-grown-requires c =
    let passed : nearest_cause c.args.shape c.args.cells.now c.args.around ≡ 0 = sym c.in_ok-check_box.ensures in
    let sound : Sound c.args.shape c.args.cells.now = record { typed = record { sizes = search rules; margins = search rules }; passed = plan-passed _ _ _ passed } in
    (sound, search rules)

pub nearest_told-requires-2 : goal.nearest_told-requires-2
nearest_told-requires-2 c =
    let passed : nearest_cause c.args.shape c.args.cells.now c.args.around ≡ 0 = sym c.in_ok-check_box.ensures in
    record {
      framed = c.grown_cells-grown.ensures.framed.1;
      around_value = box-passed _ _ _ passed;
    }

pub returns : goal.returns
returns c =
    let passed : nearest_cause c.args.shape c.args.cells.now c.args.around ≡ 0 = sym c.in_ok-check_box.ensures in
    over _ _ _ _ _ passed c.grown_cells-grown.ensures c.nearest_told-2.ensures
