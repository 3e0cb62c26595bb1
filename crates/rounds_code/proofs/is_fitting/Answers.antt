-- `rounds_code::is_fitting`: the tests of numbers, then the counters.
use native.Mathlib.Omega.{arith}
use Rattle.std.proofs.lemmas.Grind.{common_steps}
use Rattle.rounds.specs.Rounds.{fits_round}
use Rattle.rounds_code.proofs.is_fitting.Goals as goal

pub returns-then-budget-le4294967295 : goal.returns-then-budget-le4294967295
unfolding fits_round
returns-then-budget-le4294967295 c = grind (arith, common_steps)

pub returns-else-budget-le4294967295 : goal.returns-else-budget-le4294967295
unfolding fits_round
returns-else-budget-le4294967295 c = grind (arith, common_steps)
