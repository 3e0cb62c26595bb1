-- `plan_code::layer_cells`.
use mathlib.Core.Path.{◌≡◌}
use Prim.Native.Nat.{◌+◌, ◌-◌, ◌*◌}
use native.Mathlib.Omega.{arith}
use Rattle.plan_code.proofs.layer_cells.Goals as goal

pub returns : goal.returns
returns c =
    let a = c.args in
    let e : 4 * a.start + 4 * a.size - 4 * a.start ≡ 4 * a.size = omega arith in
    rw e
