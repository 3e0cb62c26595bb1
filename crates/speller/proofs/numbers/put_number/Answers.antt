-- `put_number` writes a minus where the number is below 0, and the digits of its magnitude.
use mathlib.Core.Path.{ap}
use mathlib.Core.List.{[], ◌∷◌}
use native.Mathlib.Omega.{arith}
use lib.ListN.{length}
use Rattle.decimal.proofs.Signs.{minus_first, digits_alone}
use Rattle.pens.proofs.Pens.{room-behind, wrote-both}
use Rattle.speller.proofs.numbers.put_number.Goals as goal

pub put_byte-requires : goal.put_byte-requires
put_byte-requires c = omega (arith, ap length (minus_first c.args.z _ c.ranges.z c.if-z-lt0.true c.unsigned_abs-n.ensures.value))

pub put_natural-requires : goal.put_natural-requires
put_natural-requires c = room-behind _ _ (45 ∷ []) _ c.put_byte.ensures (rw (minus_first c.args.z _ c.ranges.z c.if-z-lt0.true c.unsigned_abs-n.ensures.value) at c.requires)

pub returns-then-z-lt0 : goal.returns-then-z-lt0
returns-then-z-lt0 c = rw (minus_first c.args.z _ c.ranges.z c.if-z-lt0.true c.unsigned_abs-n.ensures.value) (wrote-both _ _ (45 ∷ []) _ c.put_byte.ensures _ c.put_natural.ensures)

pub put_natural-requires-2 : goal.put_natural-requires-2
put_natural-requires-2 c = omega (arith, ap length (digits_alone c.args.z _ c.ranges.z c.if-z-lt0.false c.unsigned_abs-n.ensures.value))

pub returns : goal.returns
returns c = rw (digits_alone c.args.z _ c.ranges.z c.if-z-lt0.false c.unsigned_abs-n.ensures.value) c.put_natural-2.ensures
