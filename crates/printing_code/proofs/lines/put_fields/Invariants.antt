-- `put_fields` writes number after number. The loop's invariant: those from i on are left to be written.
use Rattle.printing.proofs.Fields.{Fields}
use Rattle.printing_code.proofs.lines.put_fields.Given as goal

abbrev pub invariant-loop-n : goal.invariant-loop-n
invariant-loop-n l = Fields l.initial.pen l.ns l.pen l.n-index
