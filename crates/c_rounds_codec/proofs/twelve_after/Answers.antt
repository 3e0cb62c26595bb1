-- `c_rounds_codec::twelve_after`.
use borrow.Author.Rules.{rules}
use borrow.Author.Tests.{lt-ltb, le-ltb}
use Rattle.c_rounds_codec.proofs.twelve_after.Goals as goal

pub returns-then-i-m : goal.returns-then-i-m
returns-then-i-m c = rw (lt-ltb c.args.i c.args.m c.if-i-m.true) c.ticket_cells.ensures

pub returns : goal.returns
returns c = rw (le-ltb c.args.i c.args.m c.if-i-m.false) c.twelve_at.ensures
