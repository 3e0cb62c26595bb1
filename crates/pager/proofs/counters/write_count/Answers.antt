-- `pager::counters::write_count`.
use Rattle.pager.proofs.Counting.{written}
use Rattle.pager.proofs.counters.write_count.Goals as goal

pub returns : goal.returns
returns c = written c.args.counter.now c.args.count c.requires
