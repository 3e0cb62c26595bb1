-- `pager::counters::check_counter`: the counter's length.
use Rattle.pager.proofs.Counting.{fresh-long, fresh-none}
use Rattle.pager.proofs.counters.check_counter.Goals as goal

pub returns-then-counter-ne1 : goal.returns-then-counter-ne1
returns-then-counter-ne1 c = fresh-long c.args.counter.now c.if-counter-ne1.true

pub returns : goal.returns
returns c = fresh-none c.args.counter.now c.if-counter-ne1.false
