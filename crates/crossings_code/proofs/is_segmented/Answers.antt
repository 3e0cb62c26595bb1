-- `crossings_code::is_segmented`: the last layer but one, then the last.
use mathlib.Core.Path.{refl, ◌∙◌}
use native.Mathlib.Omega.{arith}
use Rattle.crossings.proofs.Reading.{layer-inside, segmented-is}
use Rattle.crossings_code.proofs.is_segmented.Goals as goal

pub all_lie-requires : goal.all_lie-requires
all_lie-requires c = layer-inside _ _ c.requires _ _ (omega (arith, c.requires.some)) c.sum_of-h.ensures

pub all_lie-requires-then-all_lie : goal.all_lie-requires-then-all_lie
all_lie-requires-then-all_lie c = layer-inside _ _ c.requires _ _ (omega (arith, c.requires.some)) c.sum_of-v.ensures

pub returns-then-all_lie : goal.returns-then-all_lie
returns-then-all_lie c =
    rw c.if-all_lie.true at (segmented-is c.args.sizes.now c.args.cells.now c.requires _ _ c.sum_of-h.ensures c.sum_of-v.ensures _ _ c.all_lie.ensures c.all_lie-then-all_lie.ensures)

pub returns-else-all_lie : goal.returns-else-all_lie
returns-else-all_lie c =
    c.if-all_lie.false ∙ rw c.if-all_lie.false at (segmented-is c.args.sizes.now c.args.cells.now c.requires _ _ c.sum_of-h.ensures c.sum_of-v.ensures _ _ c.all_lie.ensures refl)
