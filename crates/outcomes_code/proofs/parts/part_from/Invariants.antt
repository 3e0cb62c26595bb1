-- `part_from` goes from part to part. The loop's invariant: so many parts are passed.
use Rattle.outcomes.proofs.Texts.{Skipped}
use Rattle.outcomes_code.proofs.parts.part_from.Given as goal

abbrev pub invariant-loop : goal.invariant-loop
invariant-loop l = Skipped l.e l.text l.n l.counter l.from
