-- `size_of` takes the larger of the number and 0.
use mathlib.Core.Path.{◌≡◌, ap, ◌∙◌}
use native.Mathlib.Omega.{arith}
use borrow.Author.Tests.{le-leb}
use lib.IntN.{ℤ, pos, negsuc, nat_abs}
use Prim.Native.Nat.{zero, suc}
use mir.Syntax.{w32}
use mir.Val.{SFits}
use mir.Facts.{to_z-of_z}
use borrow.Author.Rules.{sfits_of}
use Rattle.std.specs.Int.{int_max}
use Rattle.checking.specs.Faults.{size_of}
use Rattle.checking_code.proofs.notes.size_of.Goals as goal

larger : (z m : ℤ) → m ≡ int_max z (pos 0) → nat_abs m ≡ size_of z
unfolding size_of
larger (pos zero) m e = ap nat_abs e
larger (pos (suc n)) m e = ap nat_abs e ∙ rw (le-leb 1 (suc n) (omega arith), le-leb 0 (suc n) (omega arith))
larger (negsuc n) m e = ap nat_abs e

pub returns : goal.returns
returns c =
    let f : SFits w32 c.args.z = c.ranges.z in
    let g : SFits w32 c.max.result = sfits_of c.max.type_inv in
    simp to_z-of_z (larger c.args.z c.max.result (simp to_z-of_z at c.max.ensures.value))
