-- `within` compares with both bounds.
use mathlib.Core.Path.{◌∙◌}
use mir.Syntax.{w32}
use mir.Val.{SFits}
use mir.Facts.{to_z-of_z}
use Rattle.checking.proofs.Faults.{within-above, within-below}
use Rattle.checking_code.proofs.notes.within.Goals as goal

pub returns-then-low-z : goal.returns-then-low-z
returns-then-low-z c =
    let f : SFits w32 c.args.z = c.ranges.z in
    let g : SFits w32 c.args.low = c.ranges.low in
    let h : SFits w32 c.args.high = c.ranges.high in
    simp to_z-of_z (within-above c.args.low c.args.high c.args.z (simp to_z-of_z at c.if-low-z.true))

pub returns-else-low-z : goal.returns-else-low-z
returns-else-low-z c =
    let f : SFits w32 c.args.z = c.ranges.z in
    let g : SFits w32 c.args.low = c.ranges.low in
    c.if-low-z.false ∙ within-below c.args.low c.args.high c.args.z (simp to_z-of_z at c.if-low-z.false)
