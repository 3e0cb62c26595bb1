-- `windows_code::row_minutes`.
use mathlib.Core.Path.{sym}
use native.Mathlib.Omega.{arith}
use lib.Seq.{length-take-le}
use Rattle.windows_code.proofs.row_minutes.Goals as goal

pub slice_bounds-minutes_in-end : goal.slice_bounds-minutes_in-end
slice_bounds-minutes_in-end c = sym (length-take-le _ _ (omega arith))

pub minutes_in-requires : goal.minutes_in-requires
minutes_in-requires c =
    record {
      in_bounds = omega (arith, length-take-le c.args.k c.args.sizes.now c.requires.le_k.1, c.requires.le_k.0);
      row_value = c.requires.row_value;
      sizes_in_bounds = c.requires.sizes_in_bounds;
    }
