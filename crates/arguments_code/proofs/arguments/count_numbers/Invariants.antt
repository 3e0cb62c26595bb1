-- `count_numbers` looks at argument after argument. The loop's invariant: the first n are taken for numbers.
use Rattle.commands.proofs.Counts.{Numbered}
use Rattle.arguments_code.proofs.arguments.count_numbers.Given as goal

abbrev pub invariant-loop-n : goal.invariant-loop-n
invariant-loop-n l = Numbered l.dash l.arguments l.most l.n
