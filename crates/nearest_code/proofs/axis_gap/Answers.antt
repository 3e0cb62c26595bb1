-- `nearest_code::axis_gap`: the second extent lies above, below, or meets the first.
use mathlib.Core.Path.{◌∙◌}
use native.Mathlib.Omega.{arith}
use Rattle.geometry.proofs.Machine.{read-lt, read-span}
use Rattle.nearest.proofs.Gaps.{gap-above, gap_below, gap-none}
use Rattle.nearest_code.proofs.axis_gap.Goals as goal

pub returns-then-high-from : goal.returns-then-high-from
returns-then-high-from c =
    let f = c.ranges in
    let a = c.args in
    let e = c.span.ensures in
    (e.0 ∙ read-span f.high f.from ∙ gap-above a.low a.high a.from a.to (read-lt f.high f.from c.if-high-from.true), e.1)

pub returns-then-to-low : goal.returns-then-to-low
returns-then-to-low c =
    let f = c.ranges in
    let a = c.args in
    let e = c.span-then-to-low.ensures in (
      e.0 ∙ read-span f.to f.low ∙ gap_below a.low a.high a.from a.to (read-lt f.high f.from c.if-high-from.false) (read-lt f.to f.low c.if-to-low.true),
      e.1,
    )

pub returns : goal.returns
returns c =
    let f = c.ranges in
    let a = c.args in
    (gap-none a.low a.high a.from a.to (read-lt f.high f.from c.if-high-from.false) (read-lt f.to f.low c.if-to-low.false), omega arith)
