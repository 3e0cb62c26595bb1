-- `report` has the report put into its buffer, which has room for every report.
use native.Mathlib.Omega.{arith}
use Rattle.reporting.proofs.Texts.{printed}
use Rattle.reporting_code.proofs.report.Goals as goal

pub returns : goal.returns
returns c =
    record {
      length = (printed c.args.text.now c.args.out.now _ _ (omega arith) c.report_on.ensures.put).0;
      buffer = (printed c.args.text.now c.args.out.now _ _ (omega arith) c.report_on.ensures.put).1.0;
      inside = (printed c.args.text.now c.args.out.now _ _ (omega arith) c.report_on.ensures.put).1.1;
    }
