-- `row_at` is a part of the table.
use mathlib.Core.Path.{◌≡◌}
use Prim.Native.Nat.{◌+◌, ◌-◌}
use native.Mathlib.Omega.{arith}
use Rattle.rows_code.proofs.row_at.Goals as goal

pub returns : goal.returns
returns c =
    let e : c.args.start + c.args.k - c.args.start ≡ c.args.k = omega arith in
    (rw e, c.requires)
