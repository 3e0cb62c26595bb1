-- `survey_code::cover_records`: the causes in their order, and then the layer.
use mathlib.Core.Path.{◌≡◌, sym, ◌∙◌}
use native.Mathlib.Omega.{arith}
use Rattle.survey.specs.CoverCall.{input_cause}
use Rattle.plan.proofs.Causes.{number-above, passed}
use Rattle.survey.proofs.CoverCall.{input-bad, too_many, too_few, layer_fits, covered}
use Rattle.survey_code.proofs.cover_records.Goals as goal

pub returns-in_err-check_input : goal.returns-in_err-check_input
returns-in_err-check_input c =
    let k = input-bad c.args.across c.args.upward c.args.corners.now c.args.cells.now _ (number-above _) c.in_err-check_input.ensures in
    let p = passed _ _ c.from_residual.ensures.1 in
    record { answer = rw p k.0; values = rw p k.1.0; number = rw p k.1.1.0; buffer = k.1.1.1 }

pub returns-then-n : goal.returns-then-n
returns-then-n c =
    let good : 0 ≡ input_cause c.args.across c.args.upward c.args.corners.now = c.in_ok-check_input.ensures in
    record {
      answer = (too_many c.args.across c.args.upward c.args.corners.now c.args.cells.now good _ c.count_kept-n.ensures (omega (arith, c.if-n.true))).0;
      values = (too_many c.args.across c.args.upward c.args.corners.now c.args.cells.now good _ c.count_kept-n.ensures (omega (arith, c.if-n.true))).1.0;
      number = (too_many c.args.across c.args.upward c.args.corners.now c.args.cells.now good _ c.count_kept-n.ensures (omega (arith, c.if-n.true))).1.1.0;
      buffer = (too_many c.args.across c.args.upward c.args.corners.now c.args.cells.now good _ c.count_kept-n.ensures (omega (arith, c.if-n.true))).1.1.1;
    }

pub returns-then-cells-n : goal.returns-then-cells-n
returns-then-cells-n c =
    let good : 0 ≡ input_cause c.args.across c.args.upward c.args.corners.now = c.in_ok-check_input.ensures in
    record {
      answer = (too_few c.args.across c.args.upward c.args.corners.now c.args.cells.now good _ c.count_kept-n.ensures (omega (arith, c.if-n.false)) (omega (arith, c.if-cells-n.true))).0;
      values = (too_few c.args.across c.args.upward c.args.corners.now c.args.cells.now good _ c.count_kept-n.ensures (omega (arith, c.if-n.false)) (omega (arith, c.if-cells-n.true))).1.0;
      number = (too_few c.args.across c.args.upward c.args.corners.now c.args.cells.now good _ c.count_kept-n.ensures (omega (arith, c.if-n.false)) (omega (arith, c.if-cells-n.true))).1.1.0;
      buffer = (too_few c.args.across c.args.upward c.args.corners.now c.args.cells.now good _ c.count_kept-n.ensures (omega (arith, c.if-n.false)) (omega (arith, c.if-cells-n.true))).1.1.1;
    }

pub put_kept-requires : goal.put_kept-requires
put_kept-requires c =
    let good : 0 ≡ input_cause c.args.across c.args.upward c.args.corners.now = c.in_ok-check_input.ensures in
    layer_fits c.args.across c.args.upward c.args.corners.now c.args.cells.now good _ c.count_kept-n.ensures (omega (arith, c.if-n.false)) (omega (arith, c.if-cells-n.false))

pub returns : goal.returns
returns c =
    let good : 0 ≡ input_cause c.args.across c.args.upward c.args.corners.now = c.in_ok-check_input.ensures in
    record {
      answer = (covered c.args.across c.args.upward c.args.corners.now c.args.cells.now good _ c.count_kept-n.ensures (omega (arith, c.if-n.false)) (omega (arith, c.if-cells-n.false)) _ _ c.put_kept.ensures).0;
      values = (covered c.args.across c.args.upward c.args.corners.now c.args.cells.now good _ c.count_kept-n.ensures (omega (arith, c.if-n.false)) (omega (arith, c.if-cells-n.false)) _ _ c.put_kept.ensures).1.0;
      number = (covered c.args.across c.args.upward c.args.corners.now c.args.cells.now good _ c.count_kept-n.ensures (omega (arith, c.if-n.false)) (omega (arith, c.if-cells-n.false)) _ _ c.put_kept.ensures).1.1.0;
      buffer = (covered c.args.across c.args.upward c.args.corners.now c.args.cells.now good _ c.count_kept-n.ensures (omega (arith, c.if-n.false)) (omega (arith, c.if-cells-n.false)) _ _ c.put_kept.ensures).1.1.1;
    }
