use native.Mathlib.Omega.{arith}
use borrow.Author.Rules.{rules}
use Rattle.pens.proofs.Pens.{due-all}
use Rattle.printing.proofs.Fields.{next-field-room, next_field, all-fields}
use Rattle.printing_code.proofs.lines.put_fields.Goals as goal

pub loop-n-init : goal.loop-n-init
loop-n-init c = record { inside = omega arith; left = due-all _ _ c.requires }

pub put_field-requires : goal.put_field-requires
put_field-requires c = search (rules, next-field-room)

pub loop-n-preserved : goal.loop-n-preserved
loop-n-preserved c = search (rules, next_field)

pub returns : goal.returns
returns c = search (rules, all-fields)
