-- `read` decides first, and fills the cells where the text is accepted.
use Rattle.plan.proofs.Causes.{number-above, passed}
use Rattle.text.proofs.Reader.{read-refused, read-accepted}
use Rattle.reader.proofs.read.Goals as goal

pub returns-in_err-d : goal.returns-in_err-d
returns-in_err-d c =
    let k = read-refused c.args.text.now c.args.cells.now _ (number-above _) c.in_err-d.ensures in
    let p = passed _ _ c.from_residual.ensures.1 in
    record { answer = rw p k.0; number = rw p c.in_err-d.ensures; buffer = k.1 }

pub fill-requires : goal.fill-requires
fill-requires c = c.in_ok-d.ensures.room

pub returns : goal.returns
returns c =
    let k = read-accepted c.args.text.now c.args.cells.now _ _ _ c.in_ok-d.ensures c.fill.ensures in
    record { answer = k.0; number = k.1.0; buffer = k.1.1 }
