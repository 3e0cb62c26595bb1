-- `rounds_code::check_clients`. The invariant: the causes of the clients that are left decide.
use Rattle.rounds_code.proofs.Checks.{Passing}
use Rattle.rounds_code.proofs.check_clients.Given as goal

abbrev pub invariant-loop-i : goal.invariant-loop-i
invariant-loop-i l = Passing l.walk.order.now l.walk.cells.now l.walk.frame l.m l.tickets l.counters l.i
