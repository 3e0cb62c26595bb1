-- `write` measures the text of a sound plan, and puts it where there is room.
use mathlib.Core.Path.{ap}
use native.Mathlib.Omega.{arith}
use Rattle.text.specs.Writer.{length_of}
use Rattle.plan.proofs.Causes.{number-above, passed}
use Rattle.text.proofs.Writer.{unsound, too_long, written}
use Rattle.writer.proofs.write.Goals as goal

pub returns-in_err-check_plan : goal.returns-in_err-check_plan
returns-in_err-check_plan c =
    let h = unsound c.args.shape c.args.cells.now c.args.buf.now _ (number-above _) c.in_err-check_plan.ensures in
    let p = passed _ _ c.from_residual.ensures.1 in
    record { answer = rw p h.0; number = rw p h.1.0; length = rw p (ap length_of h.0); buffer = h.1.1 }

pub returns-then-buf-size : goal.returns-then-buf-size
returns-then-buf-size c =
    let h = too_long c.args.shape c.args.cells.now c.args.buf.now c.in_ok-check_plan.ensures _ c.text_size-size.ensures (omega (arith, c.if-buf-size.true)) in record {
      answer = h.0;
      number = h.1.0;
      length = ap length_of h.0;
      buffer = h.1.1;
    }

pub returns : goal.returns
returns c =
    let h = written c.args.shape c.args.cells.now c.args.buf.now c.in_ok-check_plan.ensures _ c.text_size-size.ensures _ _ c.if-buf-size.false c.put_plan.ensures in record {
      answer = h.0;
      number = h.1.0;
      length = ap length_of h.0;
      buffer = h.1.1;
    }
