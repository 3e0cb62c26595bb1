-- `floats::apart_by_bits`: below 1 nothing whole, from 1 on the digits over the weight of 1.
use mathlib.Core.Path.{refl}
use Rattle.floats.proofs.Patterns.{cut-near, cut-far, one-exact, one-some}
use Rattle.floats.specs.Parts.{field_of}
use Rattle.floats.proofs.apart_by_bits.Goals as goal

pub returns-then-field-lt1023 : goal.returns-then-field-lt1023
returns-then-field-lt1023 c = cut-near c.args.bits _ refl c.if-field-lt1023.true

pub nonzero_div-result : goal.nonzero_div-result
nonzero_div-result c = one-some (field_of c.args.bits) c.if-field-lt1023.false

pub nonzero_rem-result : goal.nonzero_rem-result
nonzero_rem-result c = one-some (field_of c.args.bits) c.if-field-lt1023.false

pub returns : goal.returns
returns c = cut-far c.args.bits _ _ refl c.if-field-lt1023.false (one-exact (field_of c.args.bits) c.if-field-lt1023.false)
