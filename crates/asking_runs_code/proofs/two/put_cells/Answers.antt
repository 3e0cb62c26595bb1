-- `put_cells` copies them.
use mathlib.Core.Path.{◌≡◌, refl}
use native.Mathlib.Omega.{arith}
use Prim.Native.Nat.{◌+◌, ◌-◌}
use lib.ListN.{length}
use Rattle.asking_runs_code.proofs.Copies.{put_copied}
use Rattle.asking_runs_code.proofs.two.put_cells.Goals as goal

pub returns : goal.returns
returns c =
    let k : c.args.at + length c.args.part.now - c.args.at ≡ length c.args.part.now = omega arith in
    rw k (put_copied c.args.run.now c.args.part.now c.copy_from_slice.new.self c.args.at (length c.args.part.now) c.requires refl c.copy_from_slice.ensures.after)
