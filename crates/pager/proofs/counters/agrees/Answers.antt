-- `pager::counters::agrees`: one cell, below 2^57, the ticket's count.
use mathlib.Core.Path.{sym, ◌∙◌}
use native.Mathlib.Omega.{arith}
use borrow.Author.Tests.{ltb-true, ltb-false}
use Rattle.std.proofs.lemmas.Grind.{common_steps}
use Rattle.pager.proofs.Counting.{other-long, too-high, compared}
use Rattle.pager.proofs.counters.agrees.Goals as goal
use Rattle.pager.proofs.counters.agrees.Goals.{then-counter-eq1, else-counter-eq1}

pub returns-then-counter-lt-MOST_PROBES : goal.returns-then-counter-lt-MOST_PROBES
returns-then-counter-lt-MOST_PROBES c =
    elim c.if-counter-eq1.branch [
      | then-counter-eq1 w ↦ compared c.args.count c.args.counter.now w.if-counter-eq1.true (ltb-true _ _ (sym w.value-is ∙ c.if-counter-lt-MOST_PROBES.true))
      | else-counter-eq1 w ↦ absurd (grind (arith, common_steps))
    ]

pub returns-else-counter-lt-MOST_PROBES : goal.returns-else-counter-lt-MOST_PROBES
returns-else-counter-lt-MOST_PROBES c =
    c.if-counter-lt-MOST_PROBES.false
    ∙ elim c.if-counter-eq1.branch [
      | then-counter-eq1 w ↦ too-high c.args.count c.args.counter.now w.if-counter-eq1.true (ltb-false _ _ (sym w.value-is ∙ c.if-counter-lt-MOST_PROBES.false))
      | else-counter-eq1 w ↦ other-long c.args.count c.args.counter.now w.if-counter-eq1.false
    ]
